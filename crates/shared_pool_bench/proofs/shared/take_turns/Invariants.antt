use Rattle.step_table.specs.Passes.{IsOf}
use Rattle.shared_pool_bench.proofs.shared.take_turns.Given as goal

abbrev pub invariant-loop-round : goal.invariant-loop-round
invariant-loop-round g l = IsOf l.shared l.pass
