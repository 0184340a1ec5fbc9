use Rattle.std.proofs.Common.{◌≡◌, ℕ, ◌<◌, get_or, length, slice_get, Some, refl, arith}
use Rattle.std.proofs.lemmas.Result.{IfOk-weaker}
use Rattle.std.proofs.lemmas.Option.{slice_get-get_or, slice_get_read}
use Rattle.task_syntax.specs.declared.program.Root.{Root}
use Rattle.task_check.proofs.Passing.{is-false}
use Rattle.task_check.proofs.RootFaults.{unbehind-found, unbehind-none, behind-more}
use Rattle.task_check.proofs.root.first_unbehind.Goals as goal

pub returns-then-not-is_behind : goal.returns-then-not-is_behind
returns-then-not-is_behind c =
    let x : ℕ = get_or c.args.roots.now c.roots.i 0 in
    let here : slice_get c.args.roots.now c.roots.i ≡ Some x = slice_get-get_or c.args.roots.now c.roots.i 0 c.roots-test.true in
    let v : Root = c.index-as_slice-root.result in
    let small : x < length c.args.program.now.roots = c.requires c.roots.i x here in
    let stands : slice_get c.args.program.now.roots x ≡ Some v = slice_get_read c.args.program.now.roots (length c.args.program.now.roots) x v refl small (rw c.as_slice.ensures at c.index-as_slice-root.is) in
    let other : ¬ (c.args.behind ≡ Some x) = λ e. is-false (c.if-not-is_behind.ensures.1 e) in
    IfOk-weaker _ _ _ (λ r e. unbehind-found c.args.program.now c.args.line c.args.behind c.args.roots.now c.roots.i x v _ (cc) here stands other c.roots.invariant r e) c.fault_at.ensures

pub roots-preserved : goal.roots-preserved
roots-preserved c =
    let x : ℕ = get_or c.args.roots.now c.roots.i 0 in
    let here : slice_get c.args.roots.now c.roots.i ≡ Some x = slice_get-get_or c.args.roots.now c.roots.i 0 c.roots-test.true in
    behind-more c.args.behind c.args.roots.now c.roots.i x here (c.if-not-is_behind.ensures.0 refl) c.roots.invariant

pub returns : goal.returns
returns c =
    unbehind-none c.args.program.now c.args.line c.args.behind c.args.roots.now (λ j x h at. c.roots.invariant j x (omega arith) at)
