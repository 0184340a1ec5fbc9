use Rattle.task_meaning.proofs.AggregateRest.{members_left-value, members_left-counts}
use Rattle.task_meaning.proofs.aggregate_laws.members_left.Goals as goal

pub returns-clause-value : goal.returns-clause-value
returns-clause-value c = members_left-value

pub returns-clause-counts : goal.returns-clause-counts
returns-clause-counts c = members_left-counts
