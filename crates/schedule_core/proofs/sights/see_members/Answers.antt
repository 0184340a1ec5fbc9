use Rattle.std.proofs.Common.{◌+◌, ◌∷◌, [], ℕ, List, drop, refl, subst}
use Rattle.std.specs.Prelude.{slice_index}
use Rattle.step_table.specs.Passes.{view, plan}
use Rattle.step_table.specs.RecordHands.{HasFuture}
use Rattle.schedule_core.proofs.DroppedUnits.{unit-first}
use Rattle.schedule_core.proofs.EachFacts.{front-has}
use Rattle.schedule_core.proofs.SeeingTasks.{IsSeeingEach, seeing-starts, seeing-on}
use Rattle.schedule_core.proofs.sights.see_members.Goals as goal

pub units-init : goal.units-init
units-init c = seeing-starts (plan c.args.shared.now) c.args.units.now c.args.pass.now c.requires.has

pub see_one-requires-clause-has : goal.see_one-requires-clause-has
see_one-requires-clause-has c =
    let us = c.args.units.now in let i = c.units.unit-index in let g = plan c.args.shared.now in let u = slice_index us i in
    let so = subst (λ (rest : List ℕ). IsSeeingEach g us rest c.args.pass.now c.units.pass) (unit-first us i u c.units-test.true refl) c.units.invariant in
    front-has (λ (w : ℕ). HasFuture g w (view c.units.pass)) (u ∷ []) (drop (i + 1) us) so.has

pub units-preserved : goal.units-preserved
units-preserved c =
    let us = c.args.units.now in let i = c.units.unit-index in let g = plan c.args.shared.now in let u = slice_index us i in
    let so = subst (λ (rest : List ℕ). IsSeeingEach g us rest c.args.pass.now c.units.pass) (unit-first us i u c.units-test.true refl) c.units.invariant in
    seeing-on g us (u ∷ []) (drop (i + 1) us) c.args.pass.now c.units.pass c.see_one.new.pass so c.see_one.ensures.pass c.see_one.ensures.seen
