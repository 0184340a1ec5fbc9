use Rattle.plain_engine.proofs.Turning.{at_end, idles_on, rests_on}
use Rattle.plain_engine.proofs.engine.Engine.turns.Goals as goal

-- src/run.rt:31:9
pub turns-preserved : goal.turns-preserved
turns-preserved c = (
  idles_on c.args.checked.now c.args.columns.now c.turns.self c.turn.new.self c.turn.result c.turn.ensures.turns c.if-not-turn.false c.turns.invariant.0,
  rests_on c.args.checked.now c.args.columns.now c.turns.self c.turn.new.self c.turn.result c.turn.ensures.turns c.if-not-turn.false c.args.self.now c.turns.invariant.1,
)

-- src/run.rt:39:17
pub returns-then-not-turn : goal.returns-then-not-turn
returns-then-not-turn c =
    at_end c.args.checked.now c.args.columns.now c.turns.self c.turn.new.self c.turn.result c.turn.ensures.turns c.if-not-turn.true c.args.self.now c.turns.invariant.1
