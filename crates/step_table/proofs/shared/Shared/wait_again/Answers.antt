use Rattle.step_table.proofs.shared.Shared.wait_again.Goals as goal
use Rattle.std.proofs.Common.{◌≡◌, ◌∙◌, ℕ, ◌≤◌, true, length, refl, sym, ap, subst, arith}
use Rattle.std.specs.Prelude.{slice_index}
use Rattle.kt_words.specs.StateWords.{packed_state}
use Rattle.frame_code.specs.Names.{named}
use Rattle.table_core.specs.Addresses.{state}
use Rattle.table_core.specs.Views.{saw}
use Rattle.table_core.specs.declared.view.View.{View}
use Rattle.table_core.specs.Steps.{placing}
use Rattle.schedule_rule.specs.PlacingViews.{logged}
use Rattle.step_table.specs.LastLooks.{KeepsNewest}
use Rattle.step_table.specs.PlacingSteps.{placed_next}
use Rattle.step_table.proofs.RecordStepping.{state-there}
use Rattle.step_table.proofs.PlacingStepping.{word-placed, places-any, count-next}

pub store_as-requires-clause-word : goal.store_as-requires-clause-word
store_as-requires-clause-word c = record { place = c.state_word-word.ensures; there = state-there c.args.self.now.setup.plan c.args.started.unit c.requires.may.at.is_block.inside; written = refl }

pub store_as-requires-clause-rule : goal.store_as-requires-clause-rule
store_as-requires-clause-rule c =
    let setup = c.args.self.now.setup in let pass = c.args.pass.now in let may = c.requires.may in
    let word = word-placed true c.args.number c.args.priority c.pack-waiting.result (omega (arith, may.within, setup.plan.limit_fits)) (c.pack-waiting.ensures.packed ∙ ap packed_state c.waiting_word.ensures) c.pack-waiting.ensures.word in
    places-any setup pass.seat.id pass (omega (arith, pass.shares)) true c.args.started c.args.number c.args.words.now may c.pack-waiting.result word

pub invariant_of-pass-clause-counts : goal.invariant_of-pass-clause-counts
invariant_of-pass-clause-counts c =
    let pass = c.args.pass.now in let may = c.requires.may in
    let few = count-next pass.held pass.seat.me.0.futures (named c.args.self.now.setup.checked (slice_index c.args.words.now)) pass.counts in
    subst (λ (w : View). length w.futures ≤ pass.held) (sym (c.store_as.ensures.told.1 may.run may.at)) few

pub invariant_of-pass-clause-looks : goal.invariant_of-pass-clause-looks
invariant_of-pass-clause-looks c = let pass = c.args.pass.now in let may = c.requires.may in subst (λ (w : View). KeepsNewest pass.last w.old_looks w.looks) (sym (c.store_as.ensures.told.1 may.run may.at)) pass.looks

pub returns-clause-view : goal.returns-clause-view
returns-clause-view c =
    let told = c.store_as.ensures.told in
    record {
      found = told.0;
      view_is = λ run at. subst
          (λ (word : ℕ). c.store_as.new.seat.me.0 ≡ saw (state c.args.started.unit) told.0 (logged (placing c.args.started.unit word c.args.words.now) (placed_next true c.args.self.now.setup.checked run c.args.number c.args.words.now c.args.pass.now.seat.me.0)))
          (c.pack-waiting.ensures.packed ∙ ap packed_state c.waiting_word.ensures) (told.1 run at);
    }
