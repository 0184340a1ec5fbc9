-- The steps that place a number, by the values that name the records.
use Rattle.std.proofs.Common.{◌≡◌, ◌∙◌, ℕ, ◌+◌, ◌^◌, ◌<◌, ◌≤◌, Bool, true, false, List, ◌∷◌, length, refl, sym, ap, subst, arith}
use Rattle.std.specs.Prelude.{slice_index}
use Rattle.kt_words.specs.StateWords.{phase_of, number_of, phase_code, packed_state, FitsStateWord, IsStateWord}
use Rattle.kt_words.proofs.StateWordFacts.{state_word_says_its_value}
use Rattle.task_syntax.specs.declared.value.Priority.{Priority}
use Rattle.task_syntax.specs.declared.value.Priority.TheVariants.{High, Regular, Low}
use Rattle.frame_code.specs.Names.{named}
use Rattle.table_core.specs.Addresses.{state}
use Rattle.record_core.specs.Counting.{Has}
use Rattle.table_core.specs.Holdings.{Made as MadeOf, Run}
use Rattle.table_core.specs.Views.{saw}
use Rattle.table_core.specs.declared.setup.Setup.{Setup}
use Rattle.table_core.specs.declared.view.View.{View}
use Rattle.table_core.proofs.ListFacts.{same_some}
use Rattle.table_core.specs.Steps.{placing}
use Rattle.schedule_rule.specs.Parts.{Keeps}
use Rattle.schedule_rule.specs.PlacingLaws.{StillCovers}
use Rattle.schedule_rule.specs.PlacingViews.{less, with_act_past, placed, placed_again, logged, phase_placed, IsPlacedWord}
use Rattle.schedule_rule.proofs.PlacingFacts.{length-less}
use Rattle.schedule_rule.proofs.PlacingKindsActs.{places-for_run-at, places-for_root-at}
use Rattle.schedule_rule.proofs.PlacingKindsAgain.{places-again-at}
use Rattle.step_table.specs.declared.pass.Pass.{Pass}
use Rattle.step_table.specs.declared.record_tokens.Made.{Made}
use Rattle.step_table.specs.declared.record_tokens.Started.{Started}
use Rattle.step_table.specs.Passes.{view}
use Rattle.step_table.specs.RecordHands.{RunAt}
use Rattle.step_table.specs.PlacingSteps.{priority_code, word_placed, PlacedFor, ForRun, ForRoot, Placement, runs_past, placed_made, IsFor, MayPlaceMade, placed_next, MayPlaceNext}
use Rattle.step_table.proofs.Stepping.{weaker}
use Rattle.step_table.proofs.LookupFacts.{made-there, run-there}

-- the code of a priority is one of three
pub priority-few : (priority : Priority) → priority_code priority ≤ 2
priority-few High = omega arith
priority-few Regular = omega arith
priority-few Low = omega arith

-- a word with such a number fits
pub word-fits : (waits : Bool) (number : ℕ) (priority : Priority) → number < 2 ^ 24 → FitsStateWord (word_placed waits number priority)
word-fits waits number priority small = record { priority_fits = priority-few priority; number_fits = small }

phase-placed : (waits : Bool) (number : ℕ) (priority : Priority) → phase_code (word_placed waits number priority).phase ≡ phase_placed waits
phase-placed true number priority = refl
phase-placed false number priority = refl

-- its packed word says what is placed
pub word-placed : (waits : Bool) (number : ℕ) (priority : Priority) (word : ℕ) → number < 2 ^ 24 → word ≡ packed_state (word_placed waits number priority) → IsStateWord word
    → IsPlacedWord waits number word
word-placed waits number priority word small is shape =
    let value = word_placed waits number priority in
    let says = (state_word_says_its_value value (word-fits waits number priority small)).0 in
    record { phase = ap phase_of is ∙ says.phase_is ∙ phase-placed waits number priority; number_is = ap number_of is ∙ says.number_is; shape = shape }

-- the word of a number is that of an equal one
same-word : (waits : Bool) (n k word : ℕ) → n ≡ k → IsPlacedWord waits k word → IsPlacedWord waits n word
same-word waits n k word e is = record { phase = is.phase; number_is = is.number_is ∙ sym e; shape = is.shape }

-- a placing that leaves enough references keeps the rule, where this is the view that it leaves, and these words are the frame
abbrev KeepsPlaced : Setup → ℕ → View → ℕ → List ℕ → ℕ → View → Type 0
KeepsPlaced g id v word words u w = StillCovers g v w → Keeps g id v (state u) (λ n. word) (λ k y. (found : ℕ) × (y ≡ saw (state u) found (logged (placing u word words) w)))

-- what the placing of a made record's number tells, which stores this word
abbrev pub TellsMade : Setup → View → Bool → Made → ℕ → Placement → ℕ → View → Type 0
TellsMade g v waits made number x word w = (found : ℕ) × (w ≡ saw (state made.unit) found (logged (placing made.unit word x.words) (placed_made waits g.checked made number x v)))

module _ (g : Setup) (id : ℕ) (pass : Pass) (in_use : 1 ≤ (view pass).parts) where
  abbrev v : View
  v = view pass

  -- the number of a made record is placed, by the values that name the record and the number
  pub places-made : (waits : Bool) (made : Made) (number : ℕ) (x : Placement) → MayPlaceMade g waits made number x pass → (word : ℕ) → IsPlacedWord waits number word
      → Keeps g id v (state made.unit) (λ n. word) (λ k y. TellsMade g v waits made number x word y)
  places-made waits made number x may word is = by x.asked may.asked may.covers
    where
      r : MadeOf
      r = may.holding

      there : Has r v.made × (r.unit ≡ made.unit)
      there = made-there made.unit v.made r may.at.there

      taken : List ℕ
      taken = named g.checked (slice_index x.words)

      -- the word of the number as it was drawn
      drawn-word : IsPlacedWord waits may.drawn.number word
      drawn-word = same-word waits may.drawn.number number word may.number_is is

      -- from the record itself to the values that name it
      by-values : (runs : List Run) → KeepsPlaced g id v word x.words r.unit (placed waits r.unit r.class may.drawn.number taken runs v) → KeepsPlaced g id v word x.words made.unit (placed waits made.unit made.class number taken runs v)
      by-values runs keeps =
          subst (λ (u : ℕ). KeepsPlaced g id v word x.words u (placed waits u made.class number taken runs v)) there.1
          (subst (λ (c : ℕ). KeepsPlaced g id v word x.words r.unit (placed waits r.unit c number taken runs v)) may.class_is
          (subst (λ (n : ℕ). KeepsPlaced g id v word x.words r.unit (placed waits r.unit r.class n taken runs v)) may.number_is keeps))

      by : (asked : PlacedFor) → IsFor g may.drawn asked v → KeepsPlaced g id v word x.words made.unit (placed waits made.unit made.class number taken (runs_past asked v.runs) v)
      by (ForRun w past) asks =
          let run = run-there w v.runs asks.run asks.at.there in
          let same : with_act_past asks.run.unit past v.runs ≡ with_act_past w past v.runs = ap (λ (u : ℕ). with_act_past u past v.runs) run.1 in
          by-values (with_act_past w past v.runs)
          (subst (λ (runs : List Run). KeepsPlaced g id v word x.words r.unit (placed waits r.unit r.class may.drawn.number taken runs v)) same
          (λ enough. places-for_run-at g id v waits r may.drawn x.call x.words may.may asks.run run.0 asks.asker_is past asks.moved enough in_use word drawn-word))
      by ForRoot asks = by-values v.runs (λ enough. places-for_root-at g id v waits r may.drawn x.call x.words may.may asks.0 asks.1 enough in_use word drawn-word)

  -- the next number of a run is placed, by the values that name the run and the number
  pub places-next : (waits : Bool) (started : Started) (number : ℕ) (words : List ℕ) (may : MayPlaceNext g waits started number words v) → (word : ℕ) → IsPlacedWord waits number word
      → Keeps g id v (state started.unit) (λ n. word) (λ k y. (found : ℕ) × (y ≡ saw (state started.unit) found (logged (placing started.unit word words) (placed_next waits g.checked may.run number words v))))
  places-next waits started number words may word is = subst (λ (u : ℕ). Keeps g id v (state u) (λ n. word) (λ k y. (found : ℕ) × (y ≡ saw (state u) found (logged (placing u word words) (after number))))) there.1 (by-number may.covers)
    where
      r : Run
      r = may.run

      there : Has r v.runs × (r.unit ≡ started.unit)
      there = run-there started.unit v.runs r may.at.there

      after : ℕ → View
      after n = placed_again waits r.unit r.class r.task n (named g.checked (slice_index words)) v

      by-number : KeepsPlaced g id v word words r.unit (after number)
      by-number = subst (λ (n : ℕ). KeepsPlaced g id v word words r.unit (after n)) may.number_is
          (λ enough. places-again-at g id v waits r may.drawn words may.may enough in_use word (same-word waits may.drawn.number number word may.number_is is))

-- what the placing of a run's next number tells, which stores this word, of whichever run is looked up there
abbrev pub TellsNext : Setup → View → Bool → ℕ → ℕ → List ℕ → ℕ → View → Type 0
TellsNext g v waits u number words word w = (found : ℕ) × ((run : Run) → RunAt g.plan u v run → w ≡ saw (state u) found (logged (placing u word words) (placed_next waits g.checked run number words v)))

pub places-any : (g : Setup) (id : ℕ) (pass : Pass) → 1 ≤ (view pass).parts → (waits : Bool) (started : Started) (number : ℕ) (words : List ℕ) (may : MayPlaceNext g waits started number words (view pass))
    → (word : ℕ) → IsPlacedWord waits number word → Keeps g id (view pass) (state started.unit) (λ n. word) (λ k w. TellsNext g (view pass) waits started.unit number words word w)
places-any g id pass in_use waits started number words may word is =
    weaker g id (view pass) (state started.unit) (λ n. word) one (λ k w. TellsNext g (view pass) waits started.unit number words word w) any (places-next g id pass in_use waits started number words may word is)
  where
    after : Run → ℕ → View
    after run found = saw (state started.unit) found (logged (placing started.unit word words) (placed_next waits g.checked run number words (view pass)))

    one : ℕ → View → Type 0
    one k w = (found : ℕ) × (w ≡ after may.run found)

    any : (k : ℕ) (w : View) → one k w → TellsNext g (view pass) waits started.unit number words word w
    any k w told = (told.0, λ run at. told.1 ∙ ap (λ (r : Run). after r told.0) (same_some may.run run (sym may.at.there ∙ at.there)))

-- a pass that has so many references at most has no more but one, where it takes one and gives others up
pub count-made : (u held : ℕ) (futures taken : List ℕ) → length futures ≤ held → length (u ∷ less futures taken) ≤ held + 1
count-made u held futures taken few = omega (arith, few, length-less futures taken)

-- and no more, where it gives some up
pub count-next : (held : ℕ) (futures taken : List ℕ) → length futures ≤ held → length (less futures taken) ≤ held
count-next held futures taken few = omega (arith, few, length-less futures taken)
