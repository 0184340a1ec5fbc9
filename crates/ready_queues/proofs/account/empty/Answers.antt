use Rattle.ready_queues.proofs.AccountFacts.{begins}
use Rattle.ready_queues.proofs.account.empty.Goals as goal

pub ruled-requires-clause-rule : goal.ruled-requires-clause-rule
ruled-requires-clause-rule c = begins
