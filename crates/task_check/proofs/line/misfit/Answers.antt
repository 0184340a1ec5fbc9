use Rattle.std.proofs.Common.{◌≡◌, Some, length, slice_get, refl}
use Rattle.std.proofs.lemmas.Option.{slice_get_read}
use Rattle.std.proofs.lemmas.Result.{IfOk-weaker}
use Rattle.task_syntax.specs.declared.program.Kind.{Kind}
use Rattle.task_check.proofs.LineFaults.{misfit-spawn}
use Rattle.task_check.proofs.line.misfit.Goals as goal

pub spawn_misfit-requires : goal.spawn_misfit-requires
spawn_misfit-requires c =
    let formed = rw c.in-Spawn.is at c.requires.line in
    let k : Kind = c.index-as_slice-callee.result in
    let stands : slice_get c.args.program.now.kinds c.in-Spawn.callee ≡ Some k = slice_get_read c.args.program.now.kinds (length c.args.program.now.kinds) c.in-Spawn.callee k refl formed.2.1 (rw c.as_slice.ensures at c.index-as_slice-callee.is) in
    (c.requires.program.kinds c.in-Spawn.callee k stands).arguments_are_variables

pub returns-in-Spawn : goal.returns-in-Spawn
returns-in-Spawn c =
    let formed = rw c.in-Spawn.is at c.requires.line in
    let k : Kind = c.index-as_slice-callee.result in
    let stands : slice_get c.args.program.now.kinds c.in-Spawn.callee ≡ Some k = slice_get_read c.args.program.now.kinds (length c.args.program.now.kinds) c.in-Spawn.callee k refl formed.2.1 (rw c.as_slice.ensures at c.index-as_slice-callee.is) in
    IfOk-weaker _ _ _ (λ r first. misfit-spawn c.args.program.now c.args.line.now.line c.args.line.now.instr c.in-Spawn.to c.in-Spawn.callee c.in-Spawn.arguments c.in-Spawn.behind c.in-Spawn.priority c.in-Spawn.retry k c.in-Spawn.is stands r first) (rw c.as_slice-in-Spawn.ensures at c.spawn_misfit.ensures)
