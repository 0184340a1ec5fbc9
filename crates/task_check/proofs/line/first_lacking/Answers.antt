use Rattle.std.proofs.Common.{◌≡◌, ℕ, ◌<◌, true, false, get_or, length, slice_get, Some, refl, sym, arith}
use Rattle.std.proofs.lemmas.Result.{IfOk-weaker}
use Rattle.std.proofs.lemmas.Option.{slice_get-get_or, slice_get_read}
use Rattle.task_syntax.specs.declared.program.Variable.{Variable}
use Rattle.task_check.specs.Known.{in_set}
use Rattle.task_check.proofs.Lacks.{lacking-named, lacking-none, lacking-more}
use Rattle.task_check.proofs.line.first_lacking.Goals as goal

pub returns-then-not-contains : goal.returns-then-not-contains
returns-then-not-contains c =
    let x : ℕ = get_or c.args.futures.now c.futures.i 0 in
    let here : slice_get c.args.futures.now c.futures.i ≡ Some x = slice_get-get_or c.args.futures.now c.futures.i 0 c.futures-test.true in
    let v : Variable = c.index-as_slice-variable.result in
    let small : x < length c.args.kind.now.variables = c.requires.within c.futures.i x here in
    let variable : slice_get c.args.kind.now.variables x ≡ Some v = slice_get_read c.args.kind.now.variables (length c.args.kind.now.variables) x v refl small (rw c.as_slice.ensures at c.index-as_slice-variable.is) in
    let absent : in_set x c.args.set ≡ false = sym (c.if-not-contains.ensures) in
    IfOk-weaker _ _ _ (λ r e. lacking-named c.args.line c.args.cause c.args.offset c.args.kind.now c.args.futures.now c.args.set c.futures.i x v _ (cc) here variable absent c.futures.invariant r e) c.fault_at.ensures

pub futures-preserved : goal.futures-preserved
futures-preserved c =
    let x : ℕ = get_or c.args.futures.now c.futures.i 0 in
    let here : slice_get c.args.futures.now c.futures.i ≡ Some x = slice_get-get_or c.args.futures.now c.futures.i 0 c.futures-test.true in
    let present : in_set x c.args.set ≡ true = sym (c.if-not-contains.ensures) in
    lacking-more c.args.line c.args.cause c.args.offset c.args.kind.now c.args.futures.now c.args.set c.futures.i x here present c.futures.invariant

pub returns : goal.returns
returns c =
    lacking-none c.args.line c.args.cause c.args.offset c.args.kind.now c.args.futures.now c.args.set (λ j x h at. c.futures.invariant j x (omega arith) at)
