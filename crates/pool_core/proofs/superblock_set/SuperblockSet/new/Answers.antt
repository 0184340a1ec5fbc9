use Rattle.std.proofs.Common.{replicate}
use Rattle.claim_core.proofs.FirstBits.{length-first_bits, get_or-zeros}
use Rattle.pool_core.proofs.SuperblockSets.{none_set}
use Rattle.pool_core.proofs.superblock_set.SuperblockSet.new.Goals as goal

pub returns-clause-size : goal.returns-clause-size
returns-clause-size c = length-first_bits 1024 (replicate 16 0)

pub returns-clause-none : goal.returns-clause-none
returns-clause-none c = none_set 1024 (replicate 16 0) (get_or-zeros 16)
