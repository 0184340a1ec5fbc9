use Rattle.ready_queues.proofs.AccountFacts.{forks}
use Rattle.ready_queues.proofs.account.another.Goals as goal

pub another-requires-clause-rule : goal.another-requires-clause-rule
another-requires-clause-rule c = forks _ _
