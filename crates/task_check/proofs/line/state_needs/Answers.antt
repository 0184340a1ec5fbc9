use Rattle.std.proofs.Common.{◌≡◌, Some, length, slice_get, refl}
use Rattle.std.proofs.lemmas.Option.{slice_get_read}
use Rattle.std.proofs.lemmas.Result.{IfOk-weaker}
use Rattle.task_syntax.specs.declared.program.Kind.{Kind}
use Rattle.task_syntax.specs.declared.program.State.{State}
use Rattle.task_check.proofs.Places.{future-within}
use Rattle.task_check.proofs.Lacks.{argument-within, behind-within}
use Rattle.task_check.proofs.LineFaults.{needs-spawn, needs-again, entry-of}
use Rattle.task_check.proofs.line.state_needs.Goals as goal

pub spawn_needs-requires-clause-callee : goal.spawn_needs-requires-clause-callee
spawn_needs-requires-clause-callee c =
    let formed = rw c.in-Spawn.is at c.requires.line in
    let k : Kind = c.index-as_slice-callee.result in
    let stands : slice_get c.args.program.now.kinds c.in-Spawn.callee ≡ Some k = slice_get_read c.args.program.now.kinds (length c.args.program.now.kinds) c.in-Spawn.callee k refl formed.2.1 (rw c.as_slice.ensures at c.index-as_slice-callee.is) in
    (c.requires.program.kinds c.in-Spawn.callee k stands).has_state

pub spawn_needs-requires-clause-arguments : goal.spawn_needs-requires-clause-arguments
spawn_needs-requires-clause-arguments c =
    let formed = rw c.in-Spawn.is at c.requires.line in
    rw c.as_slice-in-Spawn.ensures (λ i a e. argument-within c.args.kind.now a (formed.2.3 i a e))

pub spawn_needs-requires-clause-behind : goal.spawn_needs-requires-clause-behind
spawn_needs-requires-clause-behind c =
    let formed = rw c.in-Spawn.is at c.requires.line in
    behind-within c.args.kind.now c.in-Spawn.behind formed.2.4

pub respawn_needs-requires-clause-holds : goal.respawn_needs-requires-clause-holds
respawn_needs-requires-clause-holds c =
    let formed = rw c.in-Again.is at c.requires.line in
    let next : State = c.index-as_slice-target.result in
    let stands : slice_get c.args.kind.now.states c.in-Again.target ≡ Some next = slice_get_read c.args.kind.now.states (length c.args.kind.now.states) c.in-Again.target next refl formed.2.0 (rw c.as_slice-in-Again.ensures at c.index-as_slice-target.is) in
    λ i x e. future-within c.args.kind.now x ((c.requires.kind.states c.in-Again.target next stands).holds i x e)

pub respawn_needs-requires-clause-settled : goal.respawn_needs-requires-clause-settled
respawn_needs-requires-clause-settled c =
    let formed = rw c.in-Again.is at c.requires.line in
    let next : State = c.index-as_slice-target.result in
    let stands : slice_get c.args.kind.now.states c.in-Again.target ≡ Some next = slice_get_read c.args.kind.now.states (length c.args.kind.now.states) c.in-Again.target next refl formed.2.0 (rw c.as_slice-in-Again.ensures at c.index-as_slice-target.is) in
    λ i x e. future-within c.args.kind.now x ((c.requires.kind.states c.in-Again.target next stands).settled i x e)

pub respawn_needs-requires-clause-behind : goal.respawn_needs-requires-clause-behind
respawn_needs-requires-clause-behind c =
    let formed = rw c.in-Again.is at c.requires.line in
    behind-within c.args.kind.now c.in-Again.behind formed.2.1

pub returns-in-Spawn : goal.returns-in-Spawn
returns-in-Spawn c =
    let formed = rw c.in-Spawn.is at c.requires.line in
    let k : Kind = c.index-as_slice-callee.result in
    let stands : slice_get c.args.program.now.kinds c.in-Spawn.callee ≡ Some k = slice_get_read c.args.program.now.kinds (length c.args.program.now.kinds) c.in-Spawn.callee k refl formed.2.1 (rw c.as_slice.ensures at c.index-as_slice-callee.is) in
    let entry = entry-of k (c.requires.program.kinds c.in-Spawn.callee k stands).has_state in
    IfOk-weaker _ _ _ (λ r first. needs-spawn c.args.program.now c.args.kind.now c.args.known.now c.args.line.now.line c.args.line.now.instr c.in-Spawn.to c.in-Spawn.callee c.in-Spawn.arguments c.in-Spawn.behind c.in-Spawn.priority c.in-Spawn.retry k entry.0 c.in-Spawn.is stands entry.1 r first) (rw c.as_slice-in-Spawn.ensures at c.spawn_needs.ensures)

pub returns-in-Again : goal.returns-in-Again
returns-in-Again c =
    let formed = rw c.in-Again.is at c.requires.line in
    let next : State = c.index-as_slice-target.result in
    let stands : slice_get c.args.kind.now.states c.in-Again.target ≡ Some next = slice_get_read c.args.kind.now.states (length c.args.kind.now.states) c.in-Again.target next refl formed.2.0 (rw c.as_slice-in-Again.ensures at c.index-as_slice-target.is) in
    IfOk-weaker _ _ _ (λ r first. needs-again c.args.program.now c.args.kind.now c.args.known.now c.args.line.now.line c.args.line.now.instr c.in-Again.target c.in-Again.behind c.in-Again.priority next c.in-Again.is stands r first) c.respawn_needs.ensures
