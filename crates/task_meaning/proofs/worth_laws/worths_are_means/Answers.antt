use Rattle.task_meaning.proofs.Worths.{call-worth, aggregate-worth}
use Rattle.task_meaning.proofs.worth_laws.worths_are_means.Goals as goal

pub returns-clause-call : goal.returns-clause-call
returns-clause-call c = call-worth

pub returns-clause-aggregate : goal.returns-clause-aggregate
returns-clause-aggregate c = aggregate-worth
