use Rattle.std.proofs.Common.{sym, ◌∙◌, ap, subst, arith}
use Rattle.frame_code.specs.declared.act.Act.TheVariants as act
use Rattle.frame_code.specs.Setting.{unit_in}
use Rattle.plain_state.specs.Engine.{EngineState}
use Rattle.plain_state.specs.Moves.{MayLetGoIf}
use Rattle.plain_engine.specs.Asking.{without_named}
use Rattle.plain_engine.proofs.CarriedOut.{frame_asks, fits_asks, copy_names, may_copy, is_copied}
use Rattle.plain_engine.proofs.engine.Engine.copy.Goals as goal

pub future-requires-clause-frame : goal.future-requires-clause-frame
future-requires-clause-frame c = frame_asks c.args.checked.now c.args.self.now c.requires.0 c.args.frame.now.items
    (act.Copy c.args.to c.args.of) c.requires.1

pub future-requires-clause-variable : goal.future-requires-clause-variable
future-requires-clause-variable c = (fits_asks c.args.checked.now c.args.self.now c.requires.0 c.args.frame.now.items
    (act.Copy c.args.to c.args.of) c.requires.1).1

pub unreachable-requires : goal.unreachable-requires
unreachable-requires c = copy_names c.args.checked.now c.args.self.now c.requires.0 c.args.frame.now.items c.args.to c.args.of c.requires.1
    (sym c.future.ensures ∙ c.in_default.is)

pub hold-requires : goal.hold-requires
hold-requires c = (may_copy c.args.checked.now c.args.self.now c.requires.0 c.args.frame.now.items c.args.to c.args.of c.in-Some.unit c.requires.1
    (sym c.future.ensures ∙ c.in-Some.is)).hold

pub overflow_cast-unit : goal.overflow_cast-unit
overflow_cast-unit c =
    let may = may_copy c.args.checked.now c.args.self.now c.requires.0 c.args.frame.now.items c.args.to c.args.of c.in-Some.unit c.requires.1
    (sym c.future.ensures ∙ c.in-Some.is) in omega (arith, may.small)

pub name-requires-clause-frame : goal.name-requires-clause-frame
name-requires-clause-frame c = frame_asks c.args.checked.now c.args.self.now c.requires.0 c.args.frame.now.items
    (act.Copy c.args.to c.args.of) c.requires.1

pub name-requires-clause-variable : goal.name-requires-clause-variable
name-requires-clause-variable c = (fits_asks c.args.checked.now c.args.self.now c.requires.0 c.args.frame.now.items
    (act.Copy c.args.to c.args.of) c.requires.1).0

pub name-requires-clause-old : goal.name-requires-clause-old
name-requires-clause-old c = subst (λ (e : EngineState). MayLetGoIf (unit_in c.args.checked.now c.args.frame.now.items c.args.to) e.store)
    (sym c.hold.ensures)
    (may_copy c.args.checked.now c.args.self.now c.requires.0 c.args.frame.now.items c.args.to c.args.of c.in-Some.unit c.requires.1
    (sym c.future.ensures ∙ c.in-Some.is)).gives_up

pub returns-clause-steps : goal.returns-clause-steps
returns-clause-steps c unit = is_copied c.args.checked.now c.args.self.now unit c.args.frame.now.items c.args.to c.args.of c.name.new.self
    c.name.new.frame.items
    c.in-Some.unit (sym c.future.ensures ∙ c.in-Some.is) c.name.ensures.frame c.name.ensures.named
    (c.name.ensures.left ∙ ap (λ (e : EngineState). without_named (unit_in c.args.checked.now c.args.frame.now.items c.args.to) e) c.hold.ensures)
