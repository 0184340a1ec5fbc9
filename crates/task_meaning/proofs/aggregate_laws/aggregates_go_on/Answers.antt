use Rattle.task_meaning.proofs.AggregateRest.{members-next, members-next_counts, members-end, members-end_counts}
use Rattle.task_meaning.proofs.aggregate_laws.aggregates_go_on.Goals as goal

pub returns-clause-value : goal.returns-clause-value
returns-clause-value c = members-next

pub returns-clause-counts : goal.returns-clause-counts
returns-clause-counts c = members-next_counts

pub returns-clause-last_value : goal.returns-clause-last_value
returns-clause-last_value c = members-end

pub returns-clause-last_counts : goal.returns-clause-last_counts
returns-clause-last_counts c = members-end_counts
