use Rattle.step_table.specs.Passes.{IsSame}
use Rattle.shared_pool_bench.proofs.shared.fill.Given as goal

abbrev pub invariant-loop-superblock : goal.invariant-loop-superblock
invariant-loop-superblock l = IsSame l.fn.pass l.pass
