use Rattle.std.proofs.Common.{◌<◌, length, ap, ◌∙◌, arith}
use Rattle.std.proofs.lemmas.Result.{IfOk-weaker}
use Rattle.task_syntax.specs.Facts.{has}
use Rattle.task_check.specs.Known.{in_set}
use Rattle.task_check.specs.declared.fault.Cause.TheVariants.{NotHeld}
use Rattle.task_check.proofs.Lacks.{lacking-same}
use Rattle.task_check.proofs.state.unheld_fault.Goals as goal

pub of-held-requires : goal.of-held-requires
of-held-requires c =
    rw c.as_slice-holds.ensures (λ i x e. let h : x < length c.args.kind.now.variables = c.requires.holds i x e in let s : length c.args.kind.now.variables < 256 = c.requires.small in omega arith)

pub returns : goal.returns
returns c =
    IfOk-weaker _ _ _ (λ r first. lacking-same c.args.state.now.line NotHeld (length c.as_slice-holds.result.now) (length c.args.state.now.holds) c.args.kind.now c.as_slice-settled.result.now c.args.state.now.settled
    (λ x. in_set x c.of-held.result) (λ x. has x c.args.state.now.holds) (ap (λ xs. length xs) c.as_slice-holds.ensures) c.as_slice-settled.ensures
    (λ x. c.of-held.ensures x ∙ ap (λ xs. has x xs) c.as_slice-holds.ensures) r first) c.first_lacking.ensures
