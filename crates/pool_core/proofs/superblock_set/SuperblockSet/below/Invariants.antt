use Rattle.pool_core.specs.Vacancies.{AreBelow}
use Rattle.pool_core.proofs.superblock_set.SuperblockSet.below.Given as goal

abbrev pub invariant-loop-superblock : goal.invariant-loop-superblock
invariant-loop-superblock l = AreBelow l.superblock l.set
