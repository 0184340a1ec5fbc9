use Rattle.step_table.proofs.shared.Shared.wait_made.Goals as goal
use Rattle.std.proofs.Common.{◌≡◌, ◌∙◌, ℕ, ◌+◌, ◌≤◌, true, length, refl, sym, ap, subst, arith}
use Rattle.std.specs.Prelude.{slice_index}
use Rattle.kt_words.specs.StateWords.{packed_state}
use Rattle.frame_code.specs.Names.{named}
use Rattle.table_core.specs.Addresses.{state}
use Rattle.table_core.specs.Views.{saw}
use Rattle.table_core.specs.declared.view.View.{View}
use Rattle.table_core.specs.Steps.{placing}
use Rattle.schedule_rule.specs.PlacingViews.{logged}
use Rattle.step_table.specs.LastLooks.{KeepsNewest}
use Rattle.step_table.specs.PlacingSteps.{placed_made}
use Rattle.step_table.proofs.RecordStepping.{state-there}
use Rattle.step_table.proofs.PlacingStepping.{word-placed, places-made, count-made}

pub store_as-requires-clause-word : goal.store_as-requires-clause-word
store_as-requires-clause-word g c = record { place = c.state_word-word.ensures; there = state-there c.args.self.now.setup.plan c.args.made.unit (c.requires.1).at.is_block.inside; written = refl }

pub store_as-requires-clause-rule : goal.store_as-requires-clause-rule
store_as-requires-clause-rule g c =
    let setup = c.args.self.now.setup in let pass = c.args.pass.now in let may = c.requires.1 in
    let word = word-placed true c.args.number c.args.priority c.pack-waiting.result (omega (arith, may.within, setup.plan.limit_fits)) (c.pack-waiting.ensures.packed ∙ ap packed_state c.waiting_word.ensures) c.pack-waiting.ensures.word in
    places-made setup pass.seat.id pass (omega (arith, pass.shares)) true c.args.made c.args.number g.placement may c.pack-waiting.result word

pub invariant_of-pass-clause-counts : goal.invariant_of-pass-clause-counts
invariant_of-pass-clause-counts g c =
    let pass = c.args.pass.now in
    let few = count-made c.args.made.unit pass.held pass.seat.me.0.futures (named c.args.self.now.setup.checked (slice_index g.placement.words)) pass.counts in
    subst (λ (w : View). length w.futures ≤ pass.held + 1) (sym c.store_as.ensures.told.1) few

pub invariant_of-pass-clause-looks : goal.invariant_of-pass-clause-looks
invariant_of-pass-clause-looks g c = let pass = c.args.pass.now in subst (λ (w : View). KeepsNewest pass.last w.old_looks w.looks) (sym c.store_as.ensures.told.1) pass.looks

pub returns-clause-view : goal.returns-clause-view
returns-clause-view g c =
    let told = c.store_as.ensures.told in
    record {
      found = told.0;
      view_is = subst
          (λ (word : ℕ). c.store_as.new.seat.me.0 ≡ saw (state c.args.made.unit) told.0 (logged (placing c.args.made.unit word g.placement.words) (placed_made true c.args.self.now.setup.checked c.args.made c.args.number g.placement c.args.pass.now.seat.me.0)))
          (c.pack-waiting.ensures.packed ∙ ap packed_state c.waiting_word.ensures) told.1;
    }
