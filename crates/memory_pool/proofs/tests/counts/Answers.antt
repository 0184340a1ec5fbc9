use Rattle.std.proofs.Common.{◌∙◌}
use Rattle.memory_pool.proofs.tests.counts.Goals as goal

pub loop-superblock-preserved : goal.loop-superblock-preserved
loop-superblock-preserved c = c.look-word.ensures.pass.table ∙ c.loop-superblock.invariant
