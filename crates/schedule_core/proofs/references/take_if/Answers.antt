use Rattle.std.proofs.Common.{ℕ, sym, subst, arith}
use Rattle.table_core.proofs.ReferenceBound.{units-few}
use Rattle.step_table.specs.Passes.{view, plan}
use Rattle.step_table.specs.RecordHands.{HasFuture}
use Rattle.step_table.specs.RecordSteps.{Refers}
use Rattle.schedule_core.proofs.EachFacts.{one-each, taken-one, taken-none}
use Rattle.schedule_core.proofs.references.take_if.Goals as goal

pub overflow_cast-unit : goal.overflow_cast-unit
overflow_cast-unit c = omega (arith, (one-each c.args.unit c.in-Some.unit c.requires.has c.in-Some.is).near, units-few (plan c.args.shared.now))

pub of-future-requires : goal.of-future-requires
of-future-requires c = (one-each c.args.unit c.in-Some.unit c.requires.has c.in-Some.is).there

pub clone_future-requires-clause-hand : goal.clone_future-requires-clause-hand
clone_future-requires-clause-hand c =
    subst (λ (u : ℕ). HasFuture (plan c.args.shared.now) u (view c.args.pass.now)) (sym c.of-future.ensures) (one-each c.args.unit c.in-Some.unit c.requires.has c.in-Some.is)

pub returns-in-Some-clause-taken : goal.returns-in-Some-clause-taken
returns-in-Some-clause-taken c =
    taken-one c.args.unit c.in-Some.unit c.args.pass.now c.clone_future.new.pass c.clone_future.result c.in-Some.is
    (subst (λ (u : ℕ). Refers u c.args.pass.now c.clone_future.result c.clone_future.new.pass) c.of-future.ensures c.clone_future.ensures.future)

pub returns-in-None-clause-taken : goal.returns-in-None-clause-taken
returns-in-None-clause-taken c = taken-none c.args.unit (view c.args.pass.now) c.in-None.is
