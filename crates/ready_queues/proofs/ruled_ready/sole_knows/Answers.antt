use Rattle.ready_queues.proofs.AccountFacts as account
use Rattle.ready_queues.proofs.ruled_ready.sole_knows.Goals as goal

pub returns : goal.returns
returns c = account.sole_knows
