use Rattle.pool_core.proofs.OneAnswer.{one_given}
use Rattle.pool_core.proofs.laws.one_is_given.Goals as goal

pub returns : goal.returns
returns c = one_given
