-- A take, by the value of the state word that it exchanges.
use Rattle.std.proofs.Common.{◌≡◌, ◌≢◌, ◌∙◌, ℕ, zero, suc, ◌+◌, ◌<◌, ◌≤◌, Bool, cond, Some, List, [], ◌∷◌, ◌++◌, length, refl, sym, ap, subst, arith}
use Rattle.std.specs.Prelude.{slice_index}
use Rattle.std.proofs.lemmas.Bool.{eq-eqb, ne_eqb}
use Rattle.std.proofs.lemmas.List.{length-append}
use Rattle.kt_words.specs.declared.phase.Phase.TheVariants.{Running}
use Rattle.kt_words.specs.declared.state_word.StateWord.{StateWord}
use Rattle.kt_words.specs.StateWords.{FitsStateWord, HasStateWord, IsStateWord, packed_state, phase_of, phase_code, number_of}
use Rattle.kt_words.proofs.StateWordFacts.{state_word_says_its_value}
use Rattle.task_meaning.specs.Worths.{Accepted}
use Rattle.table_core.specs.Addresses.{Addr, state, arena}
use Rattle.table_core.specs.Own.{known_in}
use Rattle.table_core.specs.Story.{Fact}
use Rattle.table_core.specs.Views.{saw}
use Rattle.table_core.specs.declared.setup.Setup.{Setup}
use Rattle.table_core.specs.declared.view.View.{View}
use Rattle.schedule_rule.specs.Calls.{task_in}
use Rattle.schedule_rule.specs.LifeViews.{knowing, MayStart}
use Rattle.schedule_rule.specs.TakingViews.{with_words, new_run, took, IsTakenFrame, IsTaking, Taken}
use Rattle.step_table.specs.declared.pass.Pass.{Pass}
use Rattle.step_table.specs.declared.record_tokens.Started.{Started}
use Rattle.step_table.specs.Lookups.{run_in}
use Rattle.step_table.specs.Passes.{view}
use Rattle.step_table.specs.RecordHands.{RunAt}
use Rattle.step_table.specs.SeeingSteps.{IsReadyWord}
use Rattle.step_table.specs.TakingSteps.{TakesRecord, FindsOtherState}

-- the value of a taken record's state word
abbrev pub running_of : StateWord → StateWord
running_of ready = record ready { phase = Running }

-- a ready word and the same of a running record are the words of a take
pub is-taking : (ready : StateWord) (old new : ℕ) → IsReadyWord ready → old ≡ packed_state ready → new ≡ packed_state (running_of ready) → IsTaking old new
is-taking ready old new is old_is new_is =
    let fits : FitsStateWord (running_of ready) = record { priority_fits = is.fits.priority_fits; number_fits = is.fits.number_fits } in
    let was = state_word_says_its_value ready is.fits in
    let will = state_word_says_its_value (running_of ready) fits in
    record {
      was = ap phase_of old_is ∙ was.0.phase_is ∙ ap phase_code is.phase_is;
      is = ap phase_of new_is ∙ will.0.phase_is;
      number = ap number_of new_is ∙ will.0.number_is ∙ sym (ap number_of old_is ∙ was.0.number_is);
      shape = subst IsStateWord (sym new_is) will.1;
    }

-- what the exchange tells where it found the ready word
pub takes-record : (g : Setup) (u word : ℕ) (ready : StateWord) (old new : Pass) (started : Started) → IsReadyWord ready → word ≡ packed_state ready → Taken g u word (view old) (view new)
    → started.unit ≡ u → started.number ≡ ready.number → TakesRecord g u ready old started new
takes-record g u word ready old new started is word_is told unit_is number_is =
    let numbered : number_of word ≡ ready.number = ap number_of word_is ∙ (state_word_says_its_value ready is.fits).0.number_is in
    record {
      unit_is = unit_is;
      number_is = number_is;
      class = told.0;
      words = told.1;
      call = told.2;
      more = told.3;
      frame_is = told.4;
      view_is = told.6 ∙ (λ k. knowing told.3 (saw (state u) (word_is k) (took g.checked u told.0 (numbered k) told.1 told.2 (view old))));
      start = subst (λ (n : ℕ). MayStart (view new) n) numbered told.7;
    }

-- and where it found another word
pub finds-other : (u found word : ℕ) (ready : StateWord) (old new : Pass) (value : StateWord) → HasStateWord found value → word ≡ packed_state ready → found ≢ word → view new ≡ saw (state u) found (view old)
    → FindsOtherState u ready old value new
finds-other u found word ready old new value has word_is differs told = record {
  fits = has.0;
  other = λ e. differs (sym has.1 ∙ ap packed_state e ∙ sym word_is);
  view_is = told ∙ ap (λ (n : ℕ). saw (state u) n (view old)) (sym has.1);
}

-- a pass that takes a record has as many references more as the frame names
pub taken-count : (futures more : List ℕ) (held : ℕ) → length futures ≤ held → length more ≤ 63 → length (more ++ futures) ≤ held + 63
taken-count futures more held counts few = omega (arith, length-append more futures, counts, few)

-- a record that was taken is looked up as the run that it became
pub taken-run : (g : Setup) (u c number word : ℕ) (ws : List ℕ) (call : Accepted) (more : List Fact) (v w : View) → IsTakenFrame g u c call ws → w ≡ knowing more (saw (state u) word (took g.checked u c number ws call v))
    → RunAt g.plan u w (new_run u c number (task_in (Some call) number) ws)
taken-run g u c number word ws call more v w frame_is e = record {
  is_block = frame_is.block;
  there = ap (λ (x : View). run_in u x.runs) e ∙ ap (λ (b : Bool). cond b (Some (new_run u c number (task_in (Some call) number) ws)) (run_in u v.runs)) (eq-eqb u u refl);
}

-- the words of a block are known once it is taken
pub taken-known : (k j : ℕ) (ws : List ℕ) (known : List (Addr × ℕ)) → j < length ws → known_in (arena (k + j)) (with_words k ws known) ≡ Some (slice_index ws j)
taken-known k j [] known low = absurd (omega (arith, low))
taken-known k zero (w ∷ ws) known low = ap (λ (b : Bool). cond b (Some w) (known_in (arena (k + 0)) (with_words (k + 1) ws known))) (eq-eqb k (k + 0) (omega arith))
taken-known k (suc j) (w ∷ ws) known low =
    let at : k + suc j ≡ k + 1 + j = omega arith in
    ap (λ (b : Bool). cond b (Some w) (known_in (arena (k + suc j)) (with_words (k + 1) ws known))) (ne_eqb k (k + suc j) (λ e. absurd (omega (arith, e))))
    ∙ ap (λ (n : ℕ). known_in (arena n) (with_words (k + 1) ws known)) at ∙ taken-known (k + 1) j ws known (omega (arith, low))
