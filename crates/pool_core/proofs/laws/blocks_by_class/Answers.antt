use Rattle.pool_core.proofs.ClassCounts.{superblocks_are_counted}
use Rattle.pool_core.proofs.laws.blocks_by_class.Goals as goal

pub returns : goal.returns
returns c = superblocks_are_counted
