use Rattle.std.proofs.Common.{◌<◌, length}
use Rattle.std.proofs.lemmas.Result.{IfOk-weaker}
use Rattle.task_check.proofs.StateFaults.{size-found}
use Rattle.task_check.proofs.program.size_fault.Goals as goal

pub returns : goal.returns
returns c =
    let many : 63 < length c.args.kind.now.variables = rw c.len.ensures at c.if-len-le-MOST_VARIABLES.false in
    IfOk-weaker _ _ _ (λ r e. size-found c.args.kind.now many r e) c.fault_at.ensures
