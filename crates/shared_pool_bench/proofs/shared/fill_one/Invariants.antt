use Rattle.step_table.specs.Passes.{IsSame}
use Rattle.shared_pool_bench.proofs.shared.fill_one.Given as goal

abbrev pub invariant-loop-bit : goal.invariant-loop-bit
invariant-loop-bit l = IsSame l.fn.pass l.pass
