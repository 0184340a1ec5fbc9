use Rattle.task_meaning.proofs.RootCounts.{one-more, none-left}
use Rattle.task_meaning.proofs.root_laws.roots_left.Goals as goal

pub returns-clause-one : goal.returns-clause-one
returns-clause-one c = one-more

pub returns-clause-none : goal.returns-clause-none
returns-clause-none c = none-left
