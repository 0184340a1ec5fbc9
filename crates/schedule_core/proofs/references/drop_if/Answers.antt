use Rattle.std.proofs.Common.{ℕ, sym, subst, arith}
use Rattle.table_core.proofs.ReferenceBound.{units-few}
use Rattle.future_refs.specs.Drops.{Drops, GivesBack}
use Rattle.step_table.specs.Passes.{view, plan}
use Rattle.step_table.specs.RecordHands.{MayLessen}
use Rattle.schedule_core.proofs.EachFacts.{one-each, may-drop_one, dropped-one, dropped-none}
use Rattle.schedule_core.proofs.references.drop_if.Goals as goal

pub overflow_cast-unit : goal.overflow_cast-unit
overflow_cast-unit c = omega (arith, one-each c.args.unit c.in-Some.unit c.requires.may.near c.in-Some.is, units-few (plan c.args.shared.now))

pub of-future-requires : goal.of-future-requires
of-future-requires c = (may-drop_one c.args.shared.now.setup c.args.unit c.in-Some.unit (view c.args.pass.now) c.requires.may c.in-Some.is).has.there

pub drop_future-requires-clause-may : goal.drop_future-requires-clause-may
drop_future-requires-clause-may c =
    subst (λ (u : ℕ). MayLessen c.args.shared.now.setup u (view c.args.pass.now)) (sym c.of-future.ensures)
    (may-drop_one c.args.shared.now.setup c.args.unit c.in-Some.unit (view c.args.pass.now) c.requires.may c.in-Some.is)

pub returns-in-Some-clause-dropped : goal.returns-in-Some-clause-dropped
returns-in-Some-clause-dropped c =
    dropped-one (plan c.args.shared.now) c.args.unit c.in-Some.unit (view c.args.pass.now) (view c.drop_future.new.pass) c.in-Some.is
    (subst (λ (u : ℕ). Drops (plan c.args.shared.now) u (view c.args.pass.now) (view c.drop_future.new.pass)) c.of-future.ensures c.drop_future.ensures.view)
    (subst (λ (u : ℕ). GivesBack u (view c.args.pass.now) (view c.drop_future.new.pass)) c.of-future.ensures c.drop_future.ensures.hand)

pub returns-in-None-clause-dropped : goal.returns-in-None-clause-dropped
returns-in-None-clause-dropped c = dropped-none c.args.unit (view c.args.pass.now) c.in-None.is
