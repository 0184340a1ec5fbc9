use Rattle.task_meaning.proofs.AggregateRest.{aggregate-worths, members-worth}
use Rattle.task_meaning.proofs.aggregate_laws.aggregates_need_worths.Goals as goal

pub returns-clause-call : goal.returns-clause-call
returns-clause-call c = aggregate-worths

pub returns-clause-under_way : goal.returns-clause-under_way
returns-clause-under_way c = members-worth
