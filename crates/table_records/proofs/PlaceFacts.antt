-- That the number of a drafted record may be placed, and what a placing leaves.
use Rattle.std.proofs.Common.{◌≡◌, ◌∙◌, ℕ, zero, suc, ◌+◌, ◌-◌, ◌*◌, ◌^◌, ◌<◌, ◌==◌, Bool, true, false, cond, Option, Some, None, List, [], ◌∷◌, inl, inr, refl, sym, ap, subst, true≢false, arith}
use Rattle.std.specs.Prelude.{◌⊎◌, IfSome, slice_index}
use Rattle.std.proofs.lemmas.Bool.{eq-eqb}
use Rattle.std.proofs.lemmas.Option.{none-some, same_Some}
use Rattle.record_core.specs.Counting.{times, dropped}
use Rattle.frame_code.specs.Names.{named}
use Rattle.table_core.specs.Addresses.{Addr, state, task, refs, head, frame}
use Rattle.table_core.specs.Asking.{Drawn, OfTask}
use Rattle.table_core.specs.Holdings.{Run, SawTask, Placing}
use Rattle.table_core.specs.Own.{known_in}
use Rattle.table_core.specs.RecordViews.{is_made_at}
use Rattle.table_core.specs.Story.{IsAccepted}
use Rattle.table_core.specs.Views.{saw}
use Rattle.table_core.specs.declared.setup.Setup.{Setup}
use Rattle.table_core.specs.declared.view.View.{View}
use Rattle.schedule_rule.specs.DrawViews.{ask, asking, drawn_for}
use Rattle.schedule_rule.specs.Frames.{BagSound}
use Rattle.schedule_rule.specs.LifeViews.{KnowsOver, MayStart}
use Rattle.schedule_rule.specs.Parts.{bags, seen}
use Rattle.schedule_rule.specs.PlacingViews.{less, kept_sights, is_drawn, waiting_with, past_act, with_act_past, MayStartUnless, MayPlace, logged}
use Rattle.schedule_rule.proofs.CoveringFacts.{more-cover}
use Rattle.task_syntax.specs.declared.value.Priority.TheVariants.{Regular}
use Rattle.step_table.specs.declared.pass.Pass.{Pass}
use Rattle.step_table.specs.declared.record_tokens.Made.{Made as MadeValue}
use Rattle.step_table.specs.declared.record_tokens.Started.{Started}
use Rattle.step_table.specs.DrawSteps.{IsNewNumber}
use Rattle.step_table.specs.Lookups.{run_in}
use Rattle.step_table.specs.Passes.{view}
use Rattle.step_table.specs.PlacingSteps.{Placement, ForRun, placed_made, placing_of, IsByRun, MayPlaceMade, PlacesMade}
use Rattle.table_records.specs.Makers.{IsMaker, words_of, placement_by}
use Rattle.table_records.specs.Plain.{call_behind, plain_words}
use Rattle.table_records.specs.Records.{Spawned, Spawns}
use Rattle.table_records.specs.Stages.{made_of, with_first_words, Drafts}
use Rattle.table_records.proofs.PlainFacts.{words-frame, frame-names, names-none, first-frame}
use Rattle.table_records.proofs.StageFacts.{maker-stays, made-first}

-- a run that asked is looked up with one number more to place
pub asked-in : (w : ℕ) (runs : List Run) (r : Run) → run_in w runs ≡ Some r → run_in w (asking w runs) ≡ Some (ask r)
asked-in w [] r e = absurd (none-some r e)
asked-in w (x ∷ runs) r e = by (x.unit == w) refl e (asked-in w runs r)
  where
    by : (b : Bool) → (x.unit == w) ≡ b → cond b (Some x) (run_in w runs) ≡ Some r → (run_in w runs ≡ Some r → run_in w (asking w runs) ≡ Some (ask r))
        → run_in w (cond b (ask x ∷ runs) (x ∷ asking w runs)) ≡ Some (ask r)
    by true is found later = ap (λ (b : Bool). cond b (Some (ask x)) (run_in w runs)) is ∙ ap (λ (y : Run). Some (ask y)) (same_Some x r found)
    by false is found later = ap (λ (b : Bool). cond b (Some x) (run_in w (asking w runs))) is ∙ later found

-- once the number is placed by an act that leaves its frame, the runs are as before
pub asked-placed : (w : ℕ) (words : List ℕ) (runs : List Run) (r : Run) → run_in w runs ≡ Some r → r.words ≡ words → with_act_past w words (asking w runs) ≡ runs
asked-placed w words [] r e same = absurd (none-some r e)
asked-placed w words (x ∷ runs) r e same = by (x.unit == w) refl e (asked-placed w words runs r)
  where
    by : (b : Bool) → (x.unit == w) ≡ b → cond b (Some x) (run_in w runs) ≡ Some r → (run_in w runs ≡ Some r → r.words ≡ words → with_act_past w words (asking w runs) ≡ runs)
        → with_act_past w words (cond b (ask x ∷ runs) (x ∷ asking w runs)) ≡ x ∷ runs
    by true is found later =
        let fewer : x.unplaced + 1 - 1 ≡ x.unplaced = omega arith in
        let its : words ≡ x.words = sym same ∙ ap (λ (y : Run). y.words) (sym (same_Some x r found)) in
        ap (λ (b : Bool). cond b (past_act words (ask x) ∷ runs) (ask x ∷ with_act_past w words runs)) is ∙ (λ k. record x { unplaced = fewer k; words = its k } ∷ runs)
    by false is found later = ap (λ (b : Bool). cond b (past_act words x ∷ asking w runs) (x ∷ with_act_past w words (asking w runs))) is ∙ ap (λ (l : List Run). x ∷ l) (later found same)

-- the view once a record is drafted, with what it has looked at, won and seen
abbrev pub drafted : (u by of n : ℕ) → Option ℕ → View → View → View
drafted u by of n behind w v0 = record v0 {
  looks = w.looks;
  wins = w.wins;
  made = made_of u n true ∷ v0.made;
  runs = asking by v0.runs;
  drawn = drawn_for n u (OfTask of) ∷ v0.drawn;
  calls = (n, call_behind behind) ∷ v0.calls;
  facts = IsAccepted n (call_behind behind) ∷ v0.facts;
  known = with_first_words u n v0.known;
  may_draw = 0;
  seen = w.seen;
}

-- the known words of a drafted record
pub known-frame : (u n j : ℕ) (known : List (Addr × ℕ)) → j < 1 → known_in (frame u j) (with_first_words u n known) ≡ Some (slice_index plain_words j)
known-frame u n zero known low = ap (λ (b : Bool). cond b (Some 0) (known_in (frame u 0) ((head u, 0) ∷ (refs u, 2) ∷ (task u, n) ∷ known))) (eq-eqb (8 * u + 0) (8 * u + 0) refl)
known-frame u n (suc j) known low = absurd (omega (arith, low))

pub known-refs : (u n : ℕ) (known : List (Addr × ℕ)) → known_in (refs u) (with_first_words u n known) ≡ Some 2
known-refs u n known = ap (λ (b : Bool). cond b (Some 2) (known_in (refs u) ((task u, n) ∷ known))) (eq-eqb u u refl)

pub known-head : (u n : ℕ) (known : List (Addr × ℕ)) → known_in (head u) (with_first_words u n known) ≡ Some 0
known-head u n known = ap (λ (b : Bool). cond b (Some 0) (known_in (head u) ((refs u, 2) ∷ (task u, n) ∷ known))) (eq-eqb u u refl)

pub known-task : (u n : ℕ) (known : List (Addr × ℕ)) → known_in (task u) (with_first_words u n known) ≡ Some n
known-task u n known = ap (λ (b : Bool). cond b (Some n) (known_in (task u) known)) (eq-eqb u u refl)

-- a record that does not wait may start where it is behind none
pub record StartsUnless (waits : Bool) (behind : Option ℕ) : Type 0 where
  pub is : (waits ≡ true) ⊎ ((waits ≡ false) × (behind ≡ None))

module _ (g : Setup) (maker : Started) (u n : ℕ) (behind : Option ℕ) (w v0 : View) (is : IsMaker g maker v0) (is_new : IsNewNumber g.plan.limit n v0) where
  abbrev now : View
  now = drafted u maker.unit maker.number n behind w v0

  abbrev its : Drawn
  its = drawn_for n u (OfTask maker.number)

  starts-unless : (waits : Bool) → StartsUnless waits behind → MayStartUnless waits now n
  starts-unless true may = tt
  starts-unless false may = by behind refl may.is
    where
      by : (b : Option ℕ) → behind ≡ b → (false ≡ true) ⊎ ((false ≡ false) × (behind ≡ None)) → MayStart now n
      by b e (inl never) = absurd (true≢false (sym never))
      by b e (inr t) = (call_behind behind, (0, refl), subst (λ (o : Option ℕ). IfSome o (KnowsOver now)) (sym (t.1)) tt)

  pub placeable : (waits : Bool) → StartsUnless waits behind → MayPlace g.checked now waits (made_of u n true) its (call_behind behind) plain_words
  placeable waits may = record {
    has = (0, refl);
    numbered = refl;
    counted = refl;
    placeable = record {
      drawn = (0, refl);
      task_row = is_new.task_written;
      after_row = is_new.after_written;
      is_frame = words-frame g.checked is.plain.0;
      known = λ j low. known-frame u n j v0.known low;
      held = λ x. omega (arith, ap (times x) (names-none g.checked is.plain.0));
      names = frame-names g.checked is.plain.0;
    };
    references_known = known-refs u n v0.known;
    head_known = known-head u n v0.known;
    task_known = known-task u n v0.known;
    accepted = (0, refl);
    first = first-frame g.checked is.plain.0 now behind;
    starts = starts-unless waits may;
  }

  pub by-maker : IsByRun g its maker.unit is.run.words now
  by-maker = record {
    run = ask is.run;
    at = record { is_block = is.at.is_block; there = asked-in maker.unit v0.runs is.run is.at.there };
    asker_is = ap OfTask (sym is.task_is);
    moved = record { single = is.single; next_single = is.single; kind = refl; way = is.way; formed = is.formed };
  }

  -- the references that are left are enough, since the runs are as before
  pub covers : (waits : Bool) (made : MadeValue) → made.unit ≡ u → BagSound g.checked (record { futures = v0.futures; runs = v0.runs })
      → BagSound g.checked (seen bags (placed_made waits g.checked made n (record { call = call_behind behind; words = plain_words; asked = ForRun maker.unit is.run.words }) now))
  covers waits made unit_is bag =
      let runs : with_act_past maker.unit is.run.words (asking maker.unit v0.runs) ≡ v0.runs = asked-placed maker.unit is.run.words v0.runs is.run is.at.there refl in
      let none : named g.checked (slice_index plain_words) ≡ [] = names-none g.checked is.plain.0 in
      subst (λ (l : List Run). BagSound g.checked (record { futures = made.unit ∷ less v0.futures (named g.checked (slice_index plain_words)); runs = l })) (sym runs)
      (subst (λ (l : List ℕ). BagSound g.checked (record { futures = made.unit ∷ less v0.futures l; runs = v0.runs })) (sym none)
      (more-cover g.checked v0.runs v0.futures (made.unit ∷ v0.futures) (λ x. omega arith) bag))

  -- what the placing leaves
  pub placed-is : (waits : Bool) (made : MadeValue) → made.unit ≡ u → (f : ℕ) (x : Placing) (new : View)
      → new ≡ saw (state made.unit) f (logged x (placed_made waits g.checked made n (record { call = call_behind behind; words = plain_words; asked = ForRun maker.unit is.run.words }) now)) → Spawned waits u n behind v0 new
  placed-is waits made unit_is f x new e = subst (Spawned waits u n behind v0) (sym e) base
    where
      runs : with_act_past maker.unit is.run.words (asking maker.unit v0.runs) ≡ v0.runs
      runs = asked-placed maker.unit is.run.words v0.runs is.run is.at.there refl

      none : named g.checked (slice_index plain_words) ≡ []
      none = names-none g.checked is.plain.0

      left : made.unit ∷ less v0.futures (named g.checked (slice_index plain_words)) ≡ u ∷ v0.futures
      left = λ k. unit_is k ∷ less v0.futures (none k)

      made_left : dropped (is_made_at made.unit) (made_of u n true ∷ v0.made) ≡ v0.made
      made_left = ap (λ (b : Bool). cond b v0.made (made_of u n true ∷ dropped (is_made_at made.unit) v0.made)) (eq-eqb u made.unit (sym unit_is))

      drawn_left : dropped (is_drawn n) (its ∷ v0.drawn) ≡ v0.drawn
      drawn_left = ap (λ (b : Bool). cond b v0.drawn (its ∷ dropped (is_drawn n) v0.drawn)) (eq-eqb n n refl)

      base : Spawned waits u n behind v0 (saw (state made.unit) f (logged x (placed_made waits g.checked made n (record { call = call_behind behind; words = plain_words; asked = ForRun maker.unit is.run.words }) now)))
      base = λ k. record (placed_made waits g.checked made n (record { call = call_behind behind; words = plain_words; asked = ForRun maker.unit is.run.words }) now) {
        made = made_left k;
        waiting = waiting_with waits (unit_is k) n v0.waiting;
        runs = runs k;
        futures = left k;
        sights = SawTask (unit_is k) n ∷ kept_sights (left k) v0.sights;
        drawn = drawn_left k;
        placings = x ∷ now.placings;
        seen = (state made.unit, f) ∷ w.seen;
      }

-- the words of the maker's run, once it asked, are those of before
words-asked : (g : Setup) (maker : Started) (v0 : View) (is : IsMaker g maker v0) → words_of (run_in maker.unit (asking maker.unit v0.runs)) ≡ is.run.words
words-asked g maker v0 is = ap words_of (asked-in maker.unit v0.runs is.run is.at.there)

-- what is placed by the maker
pub placement-is : (g : Setup) (maker : Started) (u n : ℕ) (behind : Option ℕ) (v0 v : View) (is : IsMaker g maker v0) → Drafts g maker.unit maker.number u behind v0 n v
    → placement_by maker.unit behind v ≡ record { call = call_behind behind; words = plain_words; asked = ForRun maker.unit is.run.words }
placement-is g maker u n behind v0 v is draft =
    let words : words_of (run_in maker.unit v.runs) ≡ is.run.words = ap (λ (w : View). words_of (run_in maker.unit w.runs)) draft.view_is ∙ words-asked g maker v0 is in
    λ k. record { call = call_behind behind; words = plain_words; asked = ForRun maker.unit (words k) }

module _ (g : Setup) (maker : Started) (made : MadeValue) (n : ℕ) (behind : Option ℕ) (v0 : View) (pass : Pass) (is : IsMaker g maker v0) (draft : Drafts g maker.unit maker.number made.unit behind v0 n (view pass)) where
  abbrev its_placement : Placement
  its_placement = record { call = call_behind behind; words = plain_words; asked = ForRun maker.unit is.run.words }

  -- the drafted record's number may be placed
  pub may-place : (waits : Bool) → StartsUnless waits behind → made.class ≡ 0 → pass.held < 2 ^ 63 → MayPlaceMade g waits made n (placement_by maker.unit behind (view pass)) pass
  may-place waits starts class_is room =
      let v : View = drafted made.unit maker.unit maker.number n behind (view pass) v0 in
      subst (λ (x : Placement). MayPlaceMade g waits made n x pass) (sym (placement-is g maker made.unit n behind v0 (view pass) is draft)) (record {
        room = room;
        within = draft.is_new.within.1;
        drawn = drawn_for n made.unit (OfTask maker.number);
        number_is = refl;
        holding = made_of made.unit n true;
        at = made-first g.plan made.unit n true v0.made (view pass) draft.is_block (ap (λ (w : View). w.made) draft.view_is);
        class_is = sym class_is;
        may = subst (λ (w : View). MayPlace g.checked w waits (made_of made.unit n true) (drawn_for n made.unit (OfTask maker.number)) (call_behind behind) plain_words) (sym draft.view_is)
            (placeable g maker made.unit n behind (view pass) v0 is draft.is_new waits starts);
        asked = subst (λ (w : View). IsByRun g (drawn_for n made.unit (OfTask maker.number)) maker.unit is.run.words w) (sym draft.view_is) (by-maker g maker made.unit n behind (view pass) v0 is draft.is_new);
        covers = λ was. subst (λ (w : View). BagSound g.checked (seen bags (placed_made waits g.checked made n its_placement w))) (sym draft.view_is)
            (covers g maker made.unit n behind (view pass) v0 is draft.is_new waits made refl draft.bag);
      })

  -- and what that leaves
  pub places-it : (waits : Bool) (new : Pass) → PlacesMade g waits made n Regular (placement_by maker.unit behind (view pass)) pass new → Spawned waits made.unit n behind v0 (view new)
  places-it waits new told =
      placed-is g maker made.unit n behind (view pass) v0 is draft.is_new waits made refl told.found (placing_of waits made.unit n Regular plain_words) (view new)
      (told.view_is
      ∙ (λ k. saw (state made.unit) told.found (logged (placing_of waits made.unit n Regular (placement-is g maker made.unit n behind v0 (view pass) is draft k).words)
      (placed_made waits g.checked made n (placement-is g maker made.unit n behind v0 (view pass) is draft k) (draft.view_is k)))))

  pub spawns-it : (waits : Bool) (new : Pass) (u : ℕ) → u ≡ made.unit → PlacesMade g waits made n Regular (placement_by maker.unit behind (view pass)) pass new → Spawns g waits u behind v0 n (view new)
  spawns-it waits new u its told = subst (λ (x : ℕ). Spawns g waits x behind v0 n (view new)) (sym its) (record { near = draft.is_block.inside; within = draft.is_new.within; view_is = places-it waits new told })

  pub still-maker : (waits : Bool) (new : Pass) → PlacesMade g waits made n Regular (placement_by maker.unit behind (view pass)) pass new → IsMaker g maker (view new)
  still-maker waits new told = maker-stays g maker v0 (view new) (ap (λ (w : View). w.runs) (places-it waits new told)) is
