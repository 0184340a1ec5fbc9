use Rattle.task_meaning.proofs.Ahead.{jumps_ahead}
use Rattle.task_meaning.proofs.GoesOn.{calls-value, calls-counts}
use Rattle.task_meaning.proofs.act_laws.goes_on_behind_call.Goals as goal

pub returns-clause-value : goal.returns-clause-value
returns-clause-value c p d q to call waits w v formed at ready gives = calls-value p d (jumps_ahead p formed) q to call waits w v at ready gives

pub returns-clause-counts : goal.returns-clause-counts
returns-clause-counts c p d q to call waits k formed at = calls-counts p d (jumps_ahead p formed) q to call waits k at
