use Rattle.std.proofs.Common.{◌≡◌, ◌<◌, Some, length, slice_get, refl}
use Rattle.std.proofs.lemmas.Option.{slice_get_read}
use Rattle.task_check.specs.Faults.{StateFault}
use Rattle.task_check.proofs.First.{first-start, first-more, first-all}
use Rattle.task_check.proofs.program.states_fault.Goals as goal

pub states-init : goal.states-init
states-init c = first-start c.args.kind.now.states (λ place state f. StateFault c.args.program.now c.args.kind.now place state f)

pub states-preserved : goal.states-preserved
states-preserved c =
    let inside : c.states.at < length c.args.kind.now.states = rw c.as_slice-states.ensures at c.states-test.true in
    let here : slice_get c.args.kind.now.states c.states.at ≡ Some c.index-states-at.result = slice_get_read c.args.kind.now.states (length c.args.kind.now.states) c.states.at c.index-states-at.result refl inside (rw c.as_slice-states.ensures at c.index-states-at.is) in
    rw c.earlier-first.ensures (first-more c.args.kind.now.states (λ place state f. StateFault c.args.program.now c.args.kind.now place state f) c.states.at c.index-states-at.result c.states.first c.in_ok-fault.fault here c.states.invariant c.in_ok-fault.ensures)

pub returns : goal.returns
returns c = first-all c.args.kind.now.states (λ place state f. StateFault c.args.program.now c.args.kind.now place state f) c.states.at c.states.first (rw c.as_slice-states.ensures at c.states-test.false) c.states.invariant

pub state_fault-requires-clause-state : goal.state_fault-requires-clause-state
state_fault-requires-clause-state c =
    let inside : c.states.at < length c.args.kind.now.states = rw c.as_slice-states.ensures at c.states-test.true in
    c.requires.kind.states c.states.at c.index-states-at.result (slice_get_read c.args.kind.now.states (length c.args.kind.now.states) c.states.at c.index-states-at.result refl inside (rw c.as_slice-states.ensures at c.index-states-at.is))
