use Rattle.task_meaning.proofs.FrameEnds.{retries-rest}
use Rattle.task_meaning.proofs.FrameCountsOn.{retries-counts}
use Rattle.task_meaning.proofs.accepted_laws.retries_keep_rest.Goals as goal

pub returns-clause-value : goal.returns-clause-value
returns-clause-value c = retries-rest

pub returns-clause-counts : goal.returns-clause-counts
returns-clause-counts c = retries-counts
