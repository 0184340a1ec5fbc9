-- The loads that tell of tasks, and the store that makes a waiter ready, by the values that name the records.
use Rattle.std.proofs.Common.{◌≡◌, ◌∙◌, ℕ, ◌≤◌, Bool, cond, Option, Some, None, List, ◌∷◌, refl, sym, ap, subst, arith}
use Rattle.std.specs.Prelude.{IfSome}
use Rattle.std.proofs.lemmas.Bool.{eq-eqb, le-leb, and_from}
use Rattle.std.proofs.lemmas.Option.{same_Some}
use Rattle.record_core.specs.Counting.{Has, times}
use Rattle.kt_words.specs.declared.phase.Phase.TheVariants.{Ready, Complete}
use Rattle.kt_words.specs.declared.plan.Plan.{Plan}
use Rattle.kt_words.specs.declared.state_word.StateWord.{StateWord}
use Rattle.kt_words.specs.declared.tag.Tag.TheVariants.{Number}
use Rattle.kt_words.specs.StateWords.{FitsStateWord, HasStateWord, ReadsState, packed_state, state_word, phase_of, phase_code, tag_of, tag_code}
use Rattle.kt_words.proofs.StateWordFacts.{phase_has_one_code, tag_has_one_code, state_word_says_its_value}
use Rattle.task_meaning.specs.Worths.{Accepted}
use Rattle.table_core.specs.Addresses.{Addr, state, journal}
use Rattle.table_core.specs.Holdings.{Waiter, Run, Sight, SawDone}
use Rattle.table_core.specs.Own.{known_in}
use Rattle.table_core.specs.RecordViews.{saw_state}
use Rattle.table_core.specs.Story.{IsAccepted}
use Rattle.table_core.specs.Views.{saw}
use Rattle.table_core.specs.WaitViews.{readied}
use Rattle.table_core.specs.declared.setup.Setup.{Setup}
use Rattle.table_core.specs.declared.view.View.{View}
use Rattle.schedule_rule.specs.Calls.{after_in}
use Rattle.schedule_rule.specs.LifeViews.{knowing, MayStart}
use Rattle.schedule_rule.specs.Parts.{Keeps}
use Rattle.schedule_rule.specs.Results.{tag_for}
use Rattle.schedule_rule.specs.Rows.{word_of_task}
use Rattle.schedule_rule.specs.SeeingViews.{SawStateOf, TellsResult, IsAfterRow, IsWaitingWord, ready_word}
use Rattle.schedule_rule.specs.SoundViews.{SoundView}
use Rattle.schedule_rule.proofs.SeeingKinds.{sees-waiter-at, reads-known-at}
use Rattle.schedule_rule.proofs.SeeingKindsRows.{sees-task-row-at, sees-after-row-at}
use Rattle.schedule_rule.proofs.ReadyKinds.{readies-at}
use Rattle.step_table.specs.declared.pass.Pass.{Pass}
use Rattle.step_table.specs.Lookups.{waiter_in, run_in}
use Rattle.step_table.specs.Passes.{view}
use Rattle.step_table.specs.RecordHands.{WaiterAt}
use Rattle.step_table.specs.SeeingSteps.{SeesEnd, SeesResult, Readies}
use Rattle.step_table.proofs.LookupFacts.{waiter-there, run-there}
use Rattle.step_table.proofs.Stepping.{weaker}

-- the state word of a done record is kept where the pass has a reference
pub done-kept : (u word : ℕ) (v : View) → 1 ≤ times u v.futures → phase_of word ≡ 5 → Has (SawDone u word) (saw_state u word v).sights
done-kept u word v some done =
    subst (λ (b : Bool). Has (SawDone u word) (cond b (SawDone u word ∷ v.sights) v.sights)) (sym (and_from _ _ (le-leb 1 (times u v.futures) some) (eq-eqb (phase_of word) 5 done))) (0, refl)

-- what a load of a state word tells under a reference, by the value that the word packs
pub sees-end : (u found : ℕ) (old new : Pass) (word : StateWord) → 1 ≤ times u (view old).futures → HasStateWord found word → ReadsState found word → SawStateOf u (view old) found (view new)
    → SeesEnd u old word new
sees-end u found old new word some has reads told =
    let v : View = view old in
    let is_done : word.phase ≡ Complete → phase_of found ≡ 5 = λ e. sym reads.phase_is ∙ ap phase_code e in
    let kept : word.phase ≡ Complete → Has (SawDone u found) (view new).sights =
    λ e. subst (λ (sights : List Sight). Has (SawDone u found) sights) (sym (ap (λ (w : View). w.sights) told.1)) (done-kept u found v some (is_done e)) in
    record {
      fits = has.0;
      more = told.0;
      view_is = told.1 ∙ ap (λ (n : ℕ). knowing told.0 (saw (state u) n (saw_state u n v))) (sym has.1);
      nothing = λ other. told.2 (λ e. other (phase_has_one_code word.phase Complete (reads.phase_is ∙ e)));
      kept = λ e. subst (λ (n : ℕ). Has (SawDone u n) (view new).sights) (sym has.1) (kept e);
      ends = λ e t there. let known = told.3 (is_done e) t there in (known.0, known.1, tag_has_one_code word.tag (tag_for known.0) (reads.tag_is ∙ known.2));
    }

-- what a load of a result tells, by the value of the state word
pub sees-result : (u value : ℕ) (old new : Pass) (seen : StateWord) → FitsStateWord seen → TellsResult u (packed_state seen) (view old) value (view new) → SeesResult u seen old value new
sees-result u value old new seen fits told =
    let tag_is : tag_of (packed_state seen) ≡ tag_code seen.tag = (state_word_says_its_value seen fits).0.tag_is in
    record {
      more = told.0;
      view_is = told.1;
      nothing = λ other. told.2 (λ e. other (tag_has_one_code seen.tag Number (sym tag_is ∙ e)));
      gave = λ e. told.3 (tag_is ∙ ap tag_code e);
    }

-- what a load of the state word of a waiter tells
abbrev pub TellsWaiting : ℕ → View → ℕ → View → Type 0
TellsWaiting u old found new = (new ≡ saw (state u) found old) × ((x : Waiter) → waiter_in u old.waiting ≡ Some x → IsWaitingWord x.number found)

-- the state word of the waiter at u is loaded
pub waits-value : (g : Setup) (id : ℕ) (v : View) (u : ℕ) (x : Waiter) → waiter_in u v.waiting ≡ Some x → Keeps g id v (state u) (λ n. n) (TellsWaiting u v)
waits-value g id v u x is =
    let there = waiter-there u v.waiting x is in
    weaker g id v (state u) (λ n. n) (λ r w. (w ≡ saw (state u) r v) × IsWaitingWord x.number r) (TellsWaiting u v)
    (λ n w told. (told.0, λ y e. subst (λ (z : Waiter). IsWaitingWord z.number n) (same_Some x y (sym is ∙ e)) told.1))
    (subst (λ (k : ℕ). Keeps g id v (state k) (λ n. n) (λ r w. (w ≡ saw (state k) r v) × IsWaitingWord x.number r)) there.1 (sees-waiter-at g id v x there.0))

-- the word of the value with another phase is the ready word of the word that was found
pub ready-packed : (was : ℕ) (value : StateWord) → ReadsState was value → packed_state (record value { phase = Ready }) ≡ ready_word was
ready-packed was value reads = λ k. state_word 3 (reads.priority_is k) (reads.tag_is k) (reads.number_is k)

-- the waiter at u becomes ready, by the word that was found there in the step before
pub readies-value : (g : Setup) (id : ℕ) (old v : View) (u was word : ℕ) (x : Waiter) → v ≡ saw (state u) was old → waiter_in u old.waiting ≡ Some x → MayStart old x.number
    → IsWaitingWord x.number was → word ≡ ready_word was → 1 ≤ old.parts → Keeps g id v (state u) (λ n. word) (λ k w. (n : ℕ) × (w ≡ saw (state u) n (readied u v)))
readies-value g id old v u was word x e is start waiting word_is in_use =
    let there = waiter-there u old.waiting x is in
    subst (λ (y : View). Keeps g id y (state u) (λ n. word) (λ k w. (n : ℕ) × (w ≡ saw (state u) n (readied u y)))) (sym e)
    (subst (λ (r : ℕ). Keeps g id (saw (state u) was old) (state u) (λ n. r) (λ k w. (n : ℕ) × (w ≡ saw (state u) n (readied u (saw (state u) was old))))) (sym word_is)
    (subst (λ (k : ℕ). Keeps g id (saw (state k) was old) (state k) (λ n. ready_word was) (λ j w. (n : ℕ) × (w ≡ saw (state k) n (readied k (saw (state k) was old))))) there.1
    (readies-at g id (saw (state x.unit) was old) x there.0 start was (0, refl) waiting in_use)))

-- what a load of a known word tells
abbrev pub TellsKnown : Addr → View → ℕ → View → Type 0
TellsKnown a old found new = (new ≡ saw a found old) × ((n : ℕ) → known_in a old.known ≡ Some n → known_in a old.known ≡ Some found)

-- a known word is loaded
pub knows-value : (g : Setup) (id : ℕ) (v : View) (a : Addr) (n : ℕ) → known_in a v.known ≡ Some n → Keeps g id v a (λ k. k) (TellsKnown a v)
knows-value g id v a n known =
    weaker g id v a (λ k. k) (λ r w. (w ≡ saw a r v) × (r ≡ n)) (TellsKnown a v) (λ r w told. (told.0, λ k is. known ∙ ap Some (sym told.1))) (reads-known-at g id v a n known)

-- what a load of the task's row of the run at u tells
abbrev pub TellsTask : ℕ → ℕ → View → ℕ → View → Type 0
TellsTask u n old found new = (new ≡ saw (journal n 0) found old) × ((x : Run) → run_in u old.runs ≡ Some x → found ≡ x.task)

-- the row that says the task of a run's number is loaded
pub task-value : (g : Setup) (id : ℕ) (v : View) (u n : ℕ) (r : Run) → run_in u v.runs ≡ Some r → r.number ≡ n → Keeps g id v (journal n 0) (λ k. k) (TellsTask u n v)
task-value g id v u n r is numbered =
    weaker g id v (journal n 0) (λ k. k) (λ k w. (w ≡ saw (journal n 0) k v) × (k ≡ r.task)) (TellsTask u n v)
    (λ k w told. (told.0, λ x e. told.1 ∙ ap (λ (z : Run). z.task) (same_Some r x (sym is ∙ e))))
    (subst (λ (k : ℕ). Keeps g id v (journal k 0) (λ j. j) (λ j w. (w ≡ saw (journal k 0) j v) × (j ≡ r.task))) numbered (sees-task-row-at g id v r (run-there u v.runs r is).0))

-- what a load of the predecessor's row of the number n tells
abbrev pub TellsAfter : ℕ → ℕ → View → ℕ → View → Type 0
TellsAfter limit n old found new = (new ≡ saw (journal n 1) found old) × IsAfterRow limit old n found

-- the row that says the predecessor of a run's number is loaded
pub after-value : (g : Setup) (id : ℕ) (v : View) (u n : ℕ) (r : Run) → run_in u v.runs ≡ Some r → r.number ≡ n → Keeps g id v (journal n 1) (λ k. k) (TellsAfter g.plan.limit n v)
after-value g id v u n r is numbered =
    subst (λ (k : ℕ). Keeps g id v (journal k 1) (λ j. j) (TellsAfter g.plan.limit k v)) numbered (sees-after-row-at g id v r (run-there u v.runs r is).0)

-- the task that a row names is the predecessor of each call that the pass knows
pub after-named : (limit n found : ℕ) (v : View) (after : Option ℕ) → IsAfterRow limit v n found → word_of_task after ≡ found → IfSome after (λ t. 1 ≤ t) → (call : Accepted) → Has (IsAccepted n call) v.facts
    → after ≡ after_in (Some call)
after-named limit n found v after row named first call has = by after (after_in (Some call)) (named ∙ sym (row.is call has)) first (λ t. row.some call t has)
  where
    by : (x y : Option ℕ) → word_of_task x ≡ word_of_task y → IfSome x (λ t. 1 ≤ t) → ((t : ℕ) → y ≡ Some t → 1 ≤ t) → x ≡ y
    by None None e one other = refl
    by None (Some t) e one other = absurd (omega (arith, other t refl, e))
    by (Some s) None e one other = absurd (omega (arith, one, e))
    by (Some s) (Some t) e one other = ap Some e

-- a task that a row names is a number up to the limit
pub after-few : (limit n found : ℕ) (v : View) (after : Option ℕ) → IsAfterRow limit v n found → word_of_task after ≡ found → IfSome after (λ t. 1 ≤ t) → IfSome after (λ t. (1 ≤ t) × (t ≤ limit))
after-few limit n found v None row named some = tt
after-few limit n found v (Some t) row named some = (some, omega (arith, named, row.few))

-- the task of a run is a number up to the limit
pub task-few : (g : Setup) (v : View) (u : ℕ) (r : Run) → run_in u v.runs ≡ Some r → SoundView g v → r.task ≤ g.plan.limit
task-few g v u r is sound = let there = (run-there u v.runs r is).0 in let few = sound.numbers.runs there.0 r there.1 in omega (arith, few.0.1, few.1)

-- the ready word that was stored tells that the waiter at u is ready
pub readies-told : (g : Plan) (u was : ℕ) (old new : Pass) (word said : StateWord) (x : Waiter) → WaiterAt g u (view old) x → IsWaitingWord x.number was → HasStateWord was word → ReadsState was word
    → said ≡ record word { phase = Ready } → (found : ℕ) → view new ≡ saw (state u) found (saw (state u) was (readied u (view old))) → Readies g u old said new
readies-told g u was old new word said x at waiting has reads is found view_is =
    subst (λ (value : StateWord). Readies g u old value new) (sym is) (record {
      is_ready = record { fits = record { priority_fits = has.0.priority_fits; number_fits = has.0.number_fits }; phase_is = refl };
      number_is = λ w there. reads.number_is ∙ waiting.number_is ∙ ap (λ (z : Waiter). z.number) (same_Some x w (sym at.there ∙ there.there));
      was = was;
      waited = λ w there. subst (λ (z : Waiter). IsWaitingWord z.number was) (same_Some x w (sym at.there ∙ there.there)) waiting;
      priority_is = reads.priority_is;
      word_is = ready-packed was word reads;
      found = found;
      view_is = view_is;
    })
