-- That the number of the first root's record may be placed, and that the record makes others once it is taken.
use Rattle.std.proofs.Common.{◌≡◌, ◌∙◌, ℕ, suc, ◌^◌, ◌<◌, ◌≤◌, true, false, Some, None, List, [], ◌∷◌, ◌++◌, refl, sym, ap, subst, arith}
use Rattle.std.specs.Prelude.{slice_index}
use Rattle.record_core.specs.Counting.{Has, times}
use Rattle.kt_words.specs.declared.state_word.StateWord.{StateWord}
use Rattle.task_syntax.specs.declared.value.Priority.TheVariants.{Regular}
use Rattle.task_meaning.specs.Worths.{Accepted}
use Rattle.frame_code.specs.Words.{body_at}
use Rattle.table_core.specs.Addresses.{units_of}
use Rattle.table_core.specs.Asking.{OfRoot}
use Rattle.table_core.specs.Holdings.{Run, Sight, SawTask}
use Rattle.table_core.specs.Story.{Fact, IsAccepted}
use Rattle.table_core.specs.declared.setup.Setup.{Setup}
use Rattle.table_core.specs.declared.view.View.{View}
use Rattle.schedule_rule.specs.Calls.{task_in}
use Rattle.schedule_rule.specs.DrawViews.{drawn_for}
use Rattle.schedule_rule.specs.Frames.{BagSound}
use Rattle.schedule_rule.specs.Parts.{bags, seen}
use Rattle.schedule_rule.specs.PlacingViews.{less, MayPlace}
use Rattle.schedule_rule.specs.SoundViews.{SoundView}
use Rattle.schedule_rule.specs.TakingViews.{new_run, IsOfCall}
use Rattle.schedule_rule.proofs.CoveringFacts.{more-cover}
use Rattle.step_table.specs.declared.pass.Pass.{Pass}
use Rattle.step_table.specs.declared.record_tokens.Made.{Made as MadeValue}
use Rattle.step_table.specs.declared.record_tokens.Started.{Started}
use Rattle.step_table.specs.Passes.{view}
use Rattle.step_table.specs.PlacingSteps.{Placement, ForRoot, placed_made, MayPlaceMade, PlacesMade, word_placed}
use Rattle.step_table.specs.RecordHands.{RunAt}
use Rattle.step_table.specs.SeeingSteps.{IsReadyWord}
use Rattle.step_table.specs.TakingSteps.{TakesRecord}
use Rattle.step_table.proofs.TakingStepping.{taken-run}
use Rattle.table_records.specs.Plain.{IsPlain, call_behind, plain_words}
use Rattle.table_records.specs.Makers.{IsMaker}
use Rattle.table_records.specs.Openings.{RootDrafts, RootRuns}
use Rattle.table_records.specs.Stages.{made_of}
use Rattle.table_records.proofs.PlainFacts.{words-frame, frame-names, names-none, first-frame, taken-single, taken-names, taken-way}
use Rattle.table_records.proofs.PlaceFacts.{known-frame, known-refs, known-head, known-task}
use Rattle.table_records.proofs.StageFacts.{made-first}

-- what is placed for the root
abbrev pub root_placement : Placement
root_placement = record { call = call_behind None; words = plain_words; asked = ForRoot }

-- the number of the root's record may be placed
pub may-place-root : (g : Setup) (plain : IsPlain g.checked) (made : MadeValue) (n : ℕ) (v0 : View) (pass : Pass) → RootDrafts g made.unit v0 n (view pass) → made.class ≡ 0 → pass.held < 2 ^ 63
    → MayPlaceMade g false made n root_placement pass
may-place-root g plain made n v0 pass draft class_is room = record {
  room = room;
  within = draft.is_new.within.1;
  drawn = drawn_for n made.unit (OfRoot 0);
  number_is = refl;
  holding = made_of made.unit n true;
  at = made-first g.plan made.unit n true v0.made (view pass) draft.is_block (ap (λ (w : View). w.made) draft.view_is);
  class_is = sym class_is;
  may = subst (λ (w : View). MayPlace g.checked w false (made_of made.unit n true) (drawn_for n made.unit (OfRoot 0)) (call_behind None) plain_words) (sym draft.view_is) (record {
    has = (0, refl);
    numbered = refl;
    counted = refl;
    placeable = record {
      drawn = (0, refl);
      task_row = draft.is_new.task_written;
      after_row = draft.is_new.after_written;
      is_frame = words-frame g.checked plain.0;
      known = λ j low. known-frame made.unit n j v0.known low;
      held = λ x. omega (arith, ap (times x) (names-none g.checked plain.0));
      names = frame-names g.checked plain.0;
    };
    references_known = known-refs made.unit n v0.known;
    head_known = known-head made.unit n v0.known;
    task_known = known-task made.unit n v0.known;
    accepted = (0, refl);
    first = first-frame g.checked plain.0 _ None;
    starts = (call_behind None, (0, refl), tt);
  });
  asked = (0, refl);
  covers = λ was. subst (λ (w : View). BagSound g.checked (seen bags (placed_made false g.checked made n root_placement w))) (sym draft.view_is)
      (subst (λ (l : List ℕ). BagSound g.checked (record { futures = made.unit ∷ less v0.futures l; runs = v0.runs })) (sym (names-none g.checked plain.0))
      (more-cover g.checked v0.runs v0.futures (made.unit ∷ v0.futures) (λ x. omega arith) draft.bag));
}

-- the word of a record that is ready
pub ready-word : (n : ℕ) (word : StateWord) → n ≤ 4000000 → word ≡ word_placed false n Regular → IsReadyWord word
ready-word n word few e = subst IsReadyWord (sym e) (record { fits = record { priority_fits = omega arith; number_fits = omega (arith, few) }; phase_is = refl })

-- a member stands behind others too
has-behind : {A : Type 0} (more l : List A) (x : A) → Has x l → Has x (more ++ l)
has-behind [] l x has = has
has-behind (y ∷ more) l x has = let later = has-behind more l x has in (suc later.0, later.1)

-- a record whose call is known to be the plain one is taken under it
pub taken-call : (g : Setup) (u n : ℕ) (ready : StateWord) (old new : Pass) (started : Started) (told : TakesRecord g u ready old started new) → SoundView g (view new) → ready.number ≡ n
    → Has (IsAccepted n (call_behind None)) (view old).facts → told.call ≡ call_behind None
taken-call g u n ready old new started told sound number_is knows =
    let taken : List Fact = IsAccepted ready.number told.call ∷ (view old).facts in
    let facts : (view new).facts ≡ told.more ++ taken = ap (λ (v : View). v.facts) told.view_is in
    let here : Has (IsAccepted ready.number told.call) (view new).facts = subst (λ (l : List Fact). Has (IsAccepted ready.number told.call) l) (sym facts) (has-behind told.more taken (IsAccepted ready.number told.call) (0, refl)) in
    let there : Has (IsAccepted ready.number (call_behind None)) (view new).facts =
    subst (λ (l : List Fact). Has (IsAccepted ready.number (call_behind None)) l) (sym facts) (has-behind told.more taken (IsAccepted ready.number (call_behind None))
    (let known = subst (λ (m : ℕ). Has (IsAccepted m (call_behind None)) (view old).facts) (sym number_is) knows in (suc known.0, known.1))) in
    sound.facts.one_call ready.number told.call (call_behind None) here there

-- a record that was taken under the plain call, behind none, makes others
pub taken-maker : (g : Setup) (u n : ℕ) (ready : StateWord) (old new : Pass) (started : Started) → IsPlain g.checked → TakesRecord g u ready old started new → SoundView g (view new) → ready.number ≡ n
    → Has (IsAccepted n (call_behind None)) (view old).facts → IsMaker g started (view new)
taken-maker g u n ready old new started plain told sound number_is knows =
    let call_is : told.call ≡ call_behind None = taken-call g u n ready old new started told sound number_is knows in
    let single = taken-single g.checked (slice_index told.words) None (subst (λ (c : Accepted). IsOfCall c (body_at g.checked (slice_index told.words))) call_is told.frame_is.is_of) in
    record {
      plain = plain;
      run = new_run u told.class ready.number (task_in (Some told.call) ready.number) told.words;
      at = subst (λ (x : ℕ). RunAt g.plan x (view new) (new_run u told.class ready.number (task_in (Some told.call) ready.number) told.words)) (sym told.unit_is)
          (taken-run g u told.class ready.number _ told.words told.call told.more (view old) (view new) told.frame_is told.view_is);
      task_is = ap (λ (c : Accepted). task_in (Some c) ready.number) call_is ∙ sym told.number_is;
      idle = refl;
      single = single;
      way = taken-way g.checked (slice_index told.words) single told.frame_is.way;
      formed = told.frame_is.formed;
    }

-- the task of the first root runs once it is placed and taken
pub root-runs : (g : Setup) (n : ℕ) (ready : StateWord) (made : MadeValue) (v0 : View) (p0 p1 p2 : Pass) (started : Started) → IsPlain g.checked → RootDrafts g made.unit v0 n (view p0)
    → PlacesMade g false made n Regular root_placement p0 p1 → (told : TakesRecord g made.unit ready p1 started p2) → told.call ≡ call_behind None → ready.number ≡ n → RootRuns g started v0 (view p2)
root-runs g n ready made v0 p0 p1 p2 started plain draft placed told call_is number_is = record {
  near = subst (λ (x : ℕ). x < units_of g.plan) (sym told.unit_is) draft.is_block.inside;
  some = λ e. absurd (omega (arith, draft.is_new.within.0, e, its));
  run = run;
  at = subst (λ (x : ℕ). RunAt g.plan x (view p2) run) (sym told.unit_is) (taken-run g made.unit told.class ready.number _ told.words told.call told.more (view p1) (view p2) told.frame_is told.view_is);
  number_is = sym told.number_is;
  placed = refl;
  runs_are = ap (λ (v : View). v.runs) told.view_is ∙ ap (λ (l : List Run). run ∷ l) (ap (λ (v : View). v.runs) placed.view_is ∙ ap (λ (v : View). v.runs) draft.view_is);
  futures_are = ap (λ (v : View). v.futures) told.view_is ∙ ap (λ (l : List ℕ). l ++ (view p1).futures) (taken-names g.checked plain.0 (slice_index told.words) None of_call) ∙ futures;
  done_is = ap (λ (v : View). v.done) told.view_is ∙ ap (λ (v : View). v.done) placed.view_is ∙ ap (λ (v : View). v.done) draft.view_is;
  turn_is = ap (λ (v : View). v.turn) told.view_is ∙ ap (λ (v : View). v.turn) placed.view_is ∙ ap (λ (v : View). v.turn) draft.view_is;
  its_task = ap (λ (v : View). v.root_task) told.view_is ∙ ap (λ (v : View). v.root_task) placed.view_is ∙ ap (λ (v : View). v.root_task) draft.view_is ∙ sym its;
  sees = subst (λ (l : List Sight). Has (SawTask started.unit started.number) l) (sym (ap (λ (v : View). v.sights) told.view_is ∙ ap (λ (v : View). v.sights) placed.view_is)) (0, λ k. Some (SawTask (sym told.unit_is k) (sym its k)));
}
  where
    run : Run
    run = new_run made.unit told.class ready.number (task_in (Some told.call) ready.number) told.words

    its : started.number ≡ n
    its = told.number_is ∙ number_is

    of_call : IsOfCall (call_behind None) (body_at g.checked (slice_index told.words))
    of_call = subst (λ (c : Accepted). IsOfCall c (body_at g.checked (slice_index told.words))) call_is told.frame_is.is_of

    futures : (view p1).futures ≡ started.unit ∷ v0.futures
    futures = ap (λ (v : View). v.futures) placed.view_is ∙ (λ k. sym told.unit_is k ∷ less (ap (λ (v : View). v.futures) draft.view_is k) (names-none g.checked plain.0 k))
