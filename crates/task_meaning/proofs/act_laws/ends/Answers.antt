use Rattle.task_meaning.proofs.Ahead.{jumps_ahead}
use Rattle.task_meaning.proofs.GoesOn.{ends-value, ends-counts}
use Rattle.task_meaning.proofs.act_laws.ends.Goals as goal

pub returns-clause-value : goal.returns-clause-value
returns-clause-value c p d q w v formed end = ends-value p d (jumps_ahead p formed) q w v end

pub returns-clause-counts : goal.returns-clause-counts
returns-clause-counts c p d q w k formed end = ends-counts p d (jumps_ahead p formed) q w k end
