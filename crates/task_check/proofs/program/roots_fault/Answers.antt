use Rattle.std.proofs.Common.{◌≡◌, ◌<◌, Some, length, slice_get, refl}
use Rattle.std.proofs.lemmas.Option.{slice_get_read}
use Rattle.task_check.specs.Faults.{RootFault}
use Rattle.task_check.proofs.First.{first-start, first-more, first-all}
use Rattle.task_check.proofs.program.roots_fault.Goals as goal

pub roots-init : goal.roots-init
roots-init c = first-start c.args.program.now.roots (λ _ root f. RootFault c.args.program.now root f)

pub roots-preserved : goal.roots-preserved
roots-preserved c =
    let inside : c.roots.at < length c.args.program.now.roots = rw c.as_slice-roots.ensures at c.roots-test.true in
    let here : slice_get c.args.program.now.roots c.roots.at ≡ Some c.index-roots-at.result = slice_get_read c.args.program.now.roots (length c.args.program.now.roots) c.roots.at c.index-roots-at.result refl inside (rw c.as_slice-roots.ensures at c.index-roots-at.is) in
    rw c.earlier-first.ensures (first-more c.args.program.now.roots (λ _ root f. RootFault c.args.program.now root f) c.roots.at c.index-roots-at.result c.roots.first c.in_ok-fault.fault here c.roots.invariant c.in_ok-fault.ensures)

pub returns : goal.returns
returns c = first-all c.args.program.now.roots (λ _ root f. RootFault c.args.program.now root f) c.roots.at c.roots.first (rw c.as_slice-roots.ensures at c.roots-test.false) c.roots.invariant
