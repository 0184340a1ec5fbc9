use Rattle.task_meaning.proofs.GoesOn.{one-value, one-counts, one-call_value, one-call_counts}
use Rattle.task_meaning.proofs.act_laws.one_meaning.Goals as goal

pub returns-clause-value : goal.returns-clause-value
returns-clause-value c = one-value

pub returns-clause-counts : goal.returns-clause-counts
returns-clause-counts c = one-counts

pub returns-clause-call_value : goal.returns-clause-call_value
returns-clause-call_value c = one-call_value

pub returns-clause-call_counts : goal.returns-clause-call_counts
returns-clause-call_counts c = one-call_counts
