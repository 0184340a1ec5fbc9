use Rattle.pool_core.proofs.Determined.{superblock_is_its_blocks, pool_is_its_blocks}
use Rattle.pool_core.proofs.laws.superblocks_are_their_blocks.Goals as goal

pub returns-clause-superblock : goal.returns-clause-superblock
returns-clause-superblock c = superblock_is_its_blocks

pub returns-clause-pool : goal.returns-clause-pool
returns-clause-pool c = pool_is_its_blocks
