use Rattle.std.proofs.Common.{◌+◌, ◌∷◌, [], ℕ, Some, List, drop, refl, sym, subst, arith}
use Rattle.std.proofs.lemmas.List.{drop_all}
use Rattle.std.specs.Prelude.{slice_index}
use Rattle.table_core.proofs.ReferenceBound.{units-few}
use Rattle.future_refs.specs.Drops.{Drops, GivesBack}
use Rattle.step_table.specs.Passes.{view, plan}
use Rattle.step_table.specs.RecordHands.{MayLessen}
use Rattle.schedule_core.proofs.DroppedUnits.{unit-first}
use Rattle.schedule_core.proofs.EachFacts.{IsDroppingEach, drop-front, dropping-starts, dropping-on, dropping-done, may-drop_one, dropped-one}
use Rattle.schedule_core.proofs.respawning.drop_units.Goals as goal

pub units-init : goal.units-init
units-init c = dropping-starts c.args.shared.now.setup c.args.units.now c.args.pass.now c.requires.may

pub overflow_cast-unit : goal.overflow_cast-unit
overflow_cast-unit c =
    let g = c.args.shared.now.setup in let us = c.args.units.now in let i = c.units.unit-index in let u = slice_index us i in let rest = drop (i + 1) us in
    let so = subst (λ (l : List ℕ). IsDroppingEach g us l c.args.pass.now c.units.pass) (unit-first us i u c.units-test.true refl) c.units.invariant in
    omega (arith, so.may.near 0 u refl, units-few (plan c.args.shared.now))

pub of-future-requires : goal.of-future-requires
of-future-requires c =
    let g = c.args.shared.now.setup in let us = c.args.units.now in let i = c.units.unit-index in let u = slice_index us i in let rest = drop (i + 1) us in
    let so = subst (λ (l : List ℕ). IsDroppingEach g us l c.args.pass.now c.units.pass) (unit-first us i u c.units-test.true refl) c.units.invariant in
    (may-drop_one g (Some u) u (view c.units.pass) (drop-front g (u ∷ []) rest (view c.units.pass) so.may) refl).has.there

pub drop_future-requires-clause-may : goal.drop_future-requires-clause-may
drop_future-requires-clause-may c =
    let g = c.args.shared.now.setup in let us = c.args.units.now in let i = c.units.unit-index in let u = slice_index us i in let rest = drop (i + 1) us in
    let so = subst (λ (l : List ℕ). IsDroppingEach g us l c.args.pass.now c.units.pass) (unit-first us i u c.units-test.true refl) c.units.invariant in
    subst (λ (w : ℕ). MayLessen g w (view c.units.pass)) (sym c.of-future.ensures) (may-drop_one g (Some u) u (view c.units.pass) (drop-front g (u ∷ []) rest (view c.units.pass) so.may) refl)

pub units-preserved : goal.units-preserved
units-preserved c =
    let g = c.args.shared.now.setup in let us = c.args.units.now in let i = c.units.unit-index in let u = slice_index us i in let rest = drop (i + 1) us in
    let so = subst (λ (l : List ℕ). IsDroppingEach g us l c.args.pass.now c.units.pass) (unit-first us i u c.units-test.true refl) c.units.invariant in
    dropping-on g us (u ∷ []) rest c.args.pass.now c.units.pass c.drop_future.new.pass so c.drop_future.ensures.pass
    (dropped-one (plan c.args.shared.now) (Some u) u (view c.units.pass) (view c.drop_future.new.pass) refl (subst (λ (w : ℕ). Drops (plan c.args.shared.now) w (view c.units.pass) (view c.drop_future.new.pass)) c.of-future.ensures c.drop_future.ensures.view) (subst (λ (w : ℕ). GivesBack w (view c.units.pass) (view c.drop_future.new.pass)) c.of-future.ensures c.drop_future.ensures.hand))

pub returns-clause-dropped : goal.returns-clause-dropped
returns-clause-dropped c =
    let us = c.args.units.now in let i = c.units.unit-index in
    dropping-done c.args.shared.now.setup us (drop i us) c.args.pass.now c.units.pass (drop_all i us (omega (arith, c.units-test.false))) c.units.invariant
