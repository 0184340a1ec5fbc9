use Rattle.std.proofs.Common.{refl, subst}
use Rattle.task_syntax.specs.declared.value.Value.{Value}
use Rattle.frame_code.specs.declared.act.Act.TheVariants as act
use Rattle.plain_engine.specs.Going.{HasValue}
use Rattle.plain_engine.proofs.CarriedOut.{frame_asks, fits_asks, reads, is_read, may_read_trap, is_read_trap}
use Rattle.plain_engine.proofs.engine.Engine.read.Goals as goal

pub value-requires-clause-frame : goal.value-requires-clause-frame
value-requires-clause-frame c = frame_asks c.args.checked.now c.args.self.now c.args.unit c.args.frame.now.items (act.NeedsValue c.args.x) c.requires

pub value-requires-clause-value : goal.value-requires-clause-value
value-requires-clause-value c =
    let v = reads c.args.checked.now c.args.self.now c.args.unit c.args.frame.now.items c.args.x c.requires in
    record {
      variable = fits_asks c.args.checked.now c.args.self.now c.args.unit c.args.frame.now.items (act.NeedsValue c.args.x) c.requires;
      value = v.0;
      has = v.1;
    }

pub give-requires-clause-frame : goal.give-requires-clause-frame
give-requires-clause-frame c = frame_asks c.args.checked.now c.args.self.now c.args.unit c.args.frame.now.items (act.NeedsValue c.args.x) c.requires

pub gives-requires-clause-frame : goal.gives-requires-clause-frame
gives-requires-clause-frame c = frame_asks c.args.checked.now c.args.self.now c.args.unit c.args.frame.now.items (act.NeedsValue c.args.x) c.requires

pub gives-requires-clause-ends : goal.gives-requires-clause-ends
gives-requires-clause-ends c = may_read_trap c.args.checked.now c.args.self.now c.args.unit c.args.frame.now.items c.args.x c.in-Trapped.trap
    (subst (λ (v : Value). HasValue c.args.checked.now c.args.self.now c.args.frame.now.items c.args.x v) c.in-Trapped.is c.value.ensures) c.requires

pub returns-in-Number-clause-steps : goal.returns-in-Number-clause-steps
returns-in-Number-clause-steps c = is_read c.args.checked.now c.args.self.now c.args.unit c.args.frame.now.items c.args.x c.args.self.now
    c.give.new.frame.items c.in-Number.number
    (subst (λ (v : Value). HasValue c.args.checked.now c.args.self.now c.args.frame.now.items c.args.x v) c.in-Number.is c.value.ensures)
    c.give.ensures.frame c.give.ensures.given refl

pub returns-in-Trapped-clause-steps : goal.returns-in-Trapped-clause-steps
returns-in-Trapped-clause-steps c =
    is_read_trap c.args.checked.now c.args.self.now c.args.unit c.args.frame.now.items c.args.x c.gives.new.self c.args.frame.now.items
    c.in-Trapped.trap
    (subst (λ (v : Value). HasValue c.args.checked.now c.args.self.now c.args.frame.now.items c.args.x v) c.in-Trapped.is c.value.ensures)
    c.gives.ensures
