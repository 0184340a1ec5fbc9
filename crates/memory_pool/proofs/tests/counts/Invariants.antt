use Rattle.step_table.specs.Passes.{IsOf}
use Rattle.memory_pool.proofs.tests.counts.Given as goal

abbrev pub invariant-loop-superblock : goal.invariant-loop-superblock
invariant-loop-superblock l = IsOf l.shared l.pass
