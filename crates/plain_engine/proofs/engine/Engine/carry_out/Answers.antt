use Rattle.std.proofs.Common.{false, sym, subst}
use Rattle.frame_code.specs.Told.{act_told}
use Rattle.frame_code.specs.declared.act.Asked.{Asked}
use Rattle.plain_engine.specs.Going.{CarriesOut, MayCarryOut}
use Rattle.plain_engine.proofs.CarriedOut.{frame_asks, may_be_done, is_done, may_trap, is_trapped}
use Rattle.plain_engine.proofs.engine.Engine.carry_out.Goals as goal

pub gives-requires-clause-frame : goal.gives-requires-clause-frame
gives-requires-clause-frame c = frame_asks c.args.checked.now c.args.self.now c.args.unit c.args.frame.now.items (act_told c.args.asked c.args.requests.now) c.requires

pub gives-requires-clause-ends : goal.gives-requires-clause-ends
gives-requires-clause-ends c = may_be_done c.args.checked.now c.args.self.now c.args.unit c.args.frame.now.items c.in-Done.number
    (subst (λ (a : Asked). MayCarryOut c.args.checked.now c.args.self.now c.args.unit c.args.frame.now.items (act_told a c.args.requests.now)) c.in-Done.is c.requires)

pub gives-requires-in-Trap-clause-frame : goal.gives-requires-in-Trap-clause-frame
gives-requires-in-Trap-clause-frame c = frame_asks c.args.checked.now c.args.self.now c.args.unit c.args.frame.now.items (act_told c.args.asked c.args.requests.now) c.requires

pub gives-requires-in-Trap-clause-ends : goal.gives-requires-in-Trap-clause-ends
gives-requires-in-Trap-clause-ends c = may_trap c.args.checked.now c.args.self.now c.args.unit c.args.frame.now.items c.in-Trap.trap
    (subst (λ (a : Asked). MayCarryOut c.args.checked.now c.args.self.now c.args.unit c.args.frame.now.items (act_told a c.args.requests.now)) c.in-Trap.is c.requires)

pub returns-in-Done-clause-steps : goal.returns-in-Done-clause-steps
returns-in-Done-clause-steps c =
    subst (λ (a : Asked). CarriesOut c.args.checked.now c.args.self.now c.args.unit c.args.frame.now.items (act_told a c.args.requests.now) false c.gives.new.self
    c.args.frame.now.items) (sym c.in-Done.is)
    (is_done c.args.checked.now c.args.self.now c.gives.new.self c.args.unit c.args.frame.now.items c.args.frame.now.items c.in-Done.number
    c.gives.ensures)

pub returns-in-Trap-clause-steps : goal.returns-in-Trap-clause-steps
returns-in-Trap-clause-steps c =
    subst (λ (a : Asked). CarriesOut c.args.checked.now c.args.self.now c.args.unit c.args.frame.now.items (act_told a c.args.requests.now) false c.gives-in-Trap.new.self
    c.args.frame.now.items) (sym c.in-Trap.is)
    (is_trapped c.args.checked.now c.args.self.now c.gives-in-Trap.new.self c.args.unit c.args.frame.now.items c.args.frame.now.items c.in-Trap.trap
    c.gives-in-Trap.ensures)
