use Rattle.frame_code.specs.Told.{act_told}
use Rattle.plain_engine.proofs.Acting.{comes_to_end, comes_to_run, lines_fall, may_carry_out, runs_frame, still_running}
use Rattle.plain_engine.proofs.engine.Engine.run.Goals as goal

-- src/turn.rt:56:17
pub advance-asked-requires : goal.advance-asked-requires
advance-asked-requires c = runs_frame c.args.checked.now c.args.columns.now c.acts.self c.args.unit c.acts.frame.items c.acts.invariant.0

-- src/turn.rt:57:17
pub carry_out-requires : goal.carry_out-requires
carry_out-requires c = may_carry_out c.args.checked.now c.args.columns.now c.acts.self c.args.unit c.acts.frame.items c.advance-asked.new.frame.items (act_told c.advance-asked.result c.advance-asked.new.requests)
    c.advance-asked.ensures.frame c.advance-asked.ensures.acts c.acts.invariant.0 c.advance-asked.ensures.held c.advance-asked.ensures.next

-- src/turn.rt:58:17
pub returns-then-not-carry_out : goal.returns-then-not-carry_out
returns-then-not-carry_out c = comes_to_end c.args.checked.now c.args.columns.now c.acts.self c.args.unit c.acts.frame.items c.advance-asked.new.frame.items (act_told c.advance-asked.result c.advance-asked.new.requests)
    c.advance-asked.ensures.frame c.advance-asked.ensures.acts c.carry_out.result c.carry_out.new.self c.carry_out.new.frame.items c.carry_out.ensures.steps c.if-not-carry_out.true
    c.args.self.now c.args.frame.now.items c.acts.invariant.1

-- src/turn.rt:55:9
pub acts-smaller : goal.acts-smaller
acts-smaller c = lines_fall c.args.checked.now c.args.columns.now c.acts.self c.args.unit c.acts.frame.items c.advance-asked.new.frame.items (act_told c.advance-asked.result c.advance-asked.new.requests)
    c.advance-asked.ensures.frame c.advance-asked.ensures.acts c.carry_out.result c.carry_out.new.self c.carry_out.new.frame.items c.carry_out.ensures.steps c.if-not-carry_out.false
    c.acts.invariant.0 c.carry_out.ensures.fewer

-- src/turn.rt:55:9
pub acts-preserved : goal.acts-preserved
acts-preserved c = (
  still_running c.args.checked.now c.args.columns.now c.acts.self c.args.unit c.acts.frame.items c.advance-asked.new.frame.items (act_told c.advance-asked.result c.advance-asked.new.requests)
      c.advance-asked.ensures.frame c.advance-asked.ensures.acts c.carry_out.result c.carry_out.new.self c.carry_out.new.frame.items c.carry_out.ensures.steps c.if-not-carry_out.false
      c.acts.invariant.0,
  comes_to_run c.args.checked.now c.args.columns.now c.acts.self c.args.unit c.acts.frame.items c.advance-asked.new.frame.items (act_told c.advance-asked.result c.advance-asked.new.requests)
      c.advance-asked.ensures.frame c.advance-asked.ensures.acts c.carry_out.result c.carry_out.new.self c.carry_out.new.frame.items c.carry_out.ensures.steps c.if-not-carry_out.false
      c.args.self.now c.args.frame.now.items c.acts.invariant.1,
)
