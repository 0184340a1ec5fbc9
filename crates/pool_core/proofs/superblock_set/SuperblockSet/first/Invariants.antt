use Rattle.std.proofs.Common.{◌≡◌, ◌*◌}
use Rattle.pool_core.proofs.SuperblockSets.{NoneBelow}
use Rattle.pool_core.proofs.superblock_set.SuperblockSet.first.Given as goal

abbrev pub invariant-loop-word : goal.invariant-loop-word
invariant-loop-word l = (l.passed ≡ 64 * l.word-index) × NoneBelow l.word-items l.passed
