use Rattle.task_meaning.proofs.RootCounts.{root-task_counts}
use Rattle.task_meaning.proofs.root_laws.root_tasks_count.Goals as goal

pub returns : goal.returns
returns c = root-task_counts
