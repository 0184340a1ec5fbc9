use Rattle.std.proofs.Common.{nat_lt, refl}
use Rattle.std.proofs.lemmas.Result.{IfOk-weaker}
use Rattle.task_check.specs.Known.{in_set}
use Rattle.task_check.specs.declared.fault.Cause.TheVariants.{NotHeld}
use Rattle.task_check.proofs.Lacks.{lacking-same}
use Rattle.task_check.proofs.state.entry_fault.Goals as goal

pub returns : goal.returns
returns c =
    IfOk-weaker _ _ _ (λ r first. lacking-same c.args.state.now.line NotHeld 0 0 c.args.kind.now c.as_slice-holds.result.now c.args.state.now.holds
    (λ x. in_set x c.below-arguments.result) (λ x. nat_lt x c.args.kind.now.arguments) refl c.as_slice-holds.ensures c.below-arguments.ensures r first) c.first_lacking.ensures
