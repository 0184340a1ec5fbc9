use Rattle.ready_queues.proofs.AccountFacts.{takes, learns}
use Rattle.ready_queues.proofs.account.get.Goals as goal

pub pop_as-requires-clause-rule : goal.pop_as-requires-clause-rule
pop_as-requires-clause-rule g c = (takes _ _, learns _ _)
