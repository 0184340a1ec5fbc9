use Rattle.task_meaning.proofs.Ahead.{jumps_ahead}
use Rattle.task_meaning.proofs.GoesOn.{leads-value, leads-counts}
use Rattle.task_meaning.proofs.act_laws.goes_on.Goals as goal

pub returns-clause-value : goal.returns-clause-value
returns-clause-value c p d q next extra v formed leads = leads-value p d (jumps_ahead p formed) q next extra v leads

pub returns-clause-counts : goal.returns-clause-counts
returns-clause-counts c p d q next extra k formed leads = leads-counts p d (jumps_ahead p formed) q next extra k leads
