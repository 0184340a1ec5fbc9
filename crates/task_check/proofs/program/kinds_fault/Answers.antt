use Rattle.std.proofs.Common.{◌≡◌, ◌<◌, Some, length, slice_get, refl}
use Rattle.std.proofs.lemmas.Option.{slice_get_read}
use Rattle.task_check.specs.Faults.{KindFault}
use Rattle.task_check.proofs.First.{first-start, first-more, first-all}
use Rattle.task_check.proofs.program.kinds_fault.Goals as goal

pub kinds-init : goal.kinds-init
kinds-init c = first-start c.args.program.now.kinds (λ _ kind f. KindFault c.args.program.now kind f)

pub kinds-preserved : goal.kinds-preserved
kinds-preserved c =
    let inside : c.kinds.at < length c.args.program.now.kinds = rw c.as_slice-kinds.ensures at c.kinds-test.true in
    let here : slice_get c.args.program.now.kinds c.kinds.at ≡ Some c.index-kinds-at.result = slice_get_read c.args.program.now.kinds (length c.args.program.now.kinds) c.kinds.at c.index-kinds-at.result refl inside (rw c.as_slice-kinds.ensures at c.index-kinds-at.is) in
    rw c.earlier-first.ensures (first-more c.args.program.now.kinds (λ _ kind f. KindFault c.args.program.now kind f) c.kinds.at c.index-kinds-at.result c.kinds.first c.in_ok-fault.fault here c.kinds.invariant c.in_ok-fault.ensures)

pub returns : goal.returns
returns c = first-all c.args.program.now.kinds (λ _ kind f. KindFault c.args.program.now kind f) c.kinds.at c.kinds.first (rw c.as_slice-kinds.ensures at c.kinds-test.false) c.kinds.invariant

pub kind_fault-requires-clause-kind : goal.kind_fault-requires-clause-kind
kind_fault-requires-clause-kind c =
    let inside : c.kinds.at < length c.args.program.now.kinds = rw c.as_slice-kinds.ensures at c.kinds-test.true in
    c.requires.kinds c.kinds.at c.index-kinds-at.result (slice_get_read c.args.program.now.kinds (length c.args.program.now.kinds) c.kinds.at c.index-kinds-at.result refl inside (rw c.as_slice-kinds.ensures at c.index-kinds-at.is))
