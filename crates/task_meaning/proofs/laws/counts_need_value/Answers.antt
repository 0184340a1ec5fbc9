use Rattle.task_meaning.proofs.Complete.{complete-mean}
use Rattle.task_meaning.proofs.laws.counts_need_value.Goals as goal

pub returns : goal.returns
returns c = complete-mean
