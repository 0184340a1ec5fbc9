use Rattle.std.specs.Prelude.{suc}
use Rattle.std.proofs.Common.{arith}
use Rattle.task_meaning.proofs.RootTasks.{root-worth}
use Rattle.task_meaning.proofs.worth_laws.root_tasks.Goals as goal

pub returns : goal.returns
returns c p d n accepted own at root t formed tasks e o = root-worth p d n accepted own formed tasks (suc at) at root t (omega arith) e o
