use Rattle.std.proofs.Common.{ℕ, Option, sym, ◌∙◌, ap, subst}
use Rattle.frame_code.specs.Moves.{passed_on}
use Rattle.frame_code.specs.declared.act.Act.TheVariants as act
use Rattle.plain_state.specs.Moves.{MayLetGoIf}
use Rattle.plain_engine.specs.Asking.{without_named}
use Rattle.plain_engine.proofs.CarriedOut.{frame_asks, fits_asks, may_drop, is_dropped}
use Rattle.plain_engine.proofs.engine.Engine.drop_future.Goals as goal

pub lift-old-requires-clause-frame : goal.lift-old-requires-clause-frame
lift-old-requires-clause-frame c = frame_asks c.args.checked.now c.args.self.now c.requires.0 c.args.frame.now.items (act.Drop c.args.x) c.requires.1

pub lift-old-requires-clause-variable : goal.lift-old-requires-clause-variable
lift-old-requires-clause-variable c = fits_asks c.args.checked.now c.args.self.now c.requires.0 c.args.frame.now.items
    (act.Drop c.args.x) c.requires.1

pub let_go_if-requires : goal.let_go_if-requires
let_go_if-requires c = subst (λ (o : Option ℕ). MayLetGoIf o c.args.self.now.store) (sym c.lift-old.ensures.old)
    (may_drop c.args.checked.now c.args.self.now c.requires.0 c.args.frame.now.items c.args.x c.requires.1)

pub returns-clause-steps : goal.returns-clause-steps
returns-clause-steps c unit = is_dropped c.args.checked.now c.args.self.now unit c.args.frame.now.items c.args.x c.let_go_if.new.self
    c.pass_on.new.frame.items
    c.pass_on.ensures.frame (c.pass_on.ensures.moved ∙ ap passed_on c.lift-old.ensures.set)
    (c.let_go_if.ensures ∙ ap (λ (o : Option ℕ). without_named o c.args.self.now) c.lift-old.ensures.old)
