use Rattle.std.proofs.Common.{◌∙◌}
use Rattle.memory_pool.proofs.tests.spin.Goals as goal

pub loop-round-preserved : goal.loop-round-preserved
loop-round-preserved g c = (c.turn.ensures.pass.table ∙ c.loop-round.invariant.0, c.turn.ensures.idle, c.turn.ensures.pass.splits ∙ c.loop-round.invariant.2)
