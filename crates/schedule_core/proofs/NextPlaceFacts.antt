-- A running task's next activation is placed with its frame.
use Rattle.std.proofs.Common.{◌≡◌, ◌∙◌, inl, inr, ℕ, ◌<◌, Bool, false, Option, Some, None, List, [], ◌∷◌, ◌++◌, length, refl, sym, ap, subst, arith}
use Rattle.std.specs.Prelude.{slice_index}
use Rattle.record_core.specs.Counting.{Has, times, dropped}
use Rattle.kt_words.specs.declared.state_word.StateWord.{StateWord}
use Rattle.task_syntax.specs.declared.program.Program.{Program}
use Rattle.task_syntax.specs.declared.value.Priority.{Priority}
use Rattle.task_meaning.specs.Worths.{Respawn}
use Rattle.frame_code.specs.Units.{named_in}
use Rattle.table_core.specs.Addresses.{Addr, state, refs, frame, units_of}
use Rattle.table_core.specs.Own.{known_in}
use Rattle.table_core.specs.Asking.{OfTask}
use Rattle.table_core.specs.Holdings.{Run}
use Rattle.table_core.specs.RecordViews.{referred}
use Rattle.table_core.specs.Story.{IsAccepted}
use Rattle.table_core.specs.Views.{saw}
use Rattle.table_core.specs.WaitViews.{is_run_at}
use Rattle.table_core.specs.declared.setup.Setup.{Setup}
use Rattle.table_core.specs.declared.view.View.{View}
use Rattle.schedule_rule.specs.DrawViews.{drawn_for}
use Rattle.schedule_rule.specs.Frames.{BagSound}
use Rattle.schedule_rule.specs.LifeViews.{answers_left}
use Rattle.schedule_rule.specs.PlacingViews.{less, kept_sights, is_drawn, waiting_with, MayStartUnless, logged}
use Rattle.schedule_rule.proofs.CoveringFacts.{more-cover}
use Rattle.schedule_rule.proofs.PlacingFacts.{times-less}
use Rattle.step_table.specs.Lookups.{run_in}
use Rattle.step_table.specs.PlacingSteps.{word_placed, placed_next, placing_of, MayPlaceNext}
use Rattle.step_table.specs.RecordHands.{RunAt}
use Rattle.step_table.specs.declared.record_tokens.OwnWord.TheVariants as own_word
use Rattle.step_table.specs.declared.record_tokens.Started.{Started}
use Rattle.step_table.proofs.LookupFacts.{run-there}
use Rattle.step_table.proofs.RecordStepping.{fill-at}
use Rattle.schedule_core.specs.Entries.{entry_of}
use Rattle.schedule_core.specs.FrameWords.{MayWrite, WritesFrame}
use Rattle.schedule_core.specs.NextPlaces.{MayPlaceFrame, PlacesAgain}
use Rattle.schedule_core.proofs.Placing.{priority-back}

module _ (g : Setup) (u n : ℕ) (after : Option ℕ) (words : List ℕ) (v : View) (may : MayPlaceFrame g u n after words v) where
  abbrev p : Program
  p = g.checked

  abbrev names : List ℕ
  names = named_in g.checked words

  run-unit : may.run.unit ≡ u
  run-unit = (run-there u v.runs may.run may.at.there).1

  -- the words of the frame may be written
  pub may-write : MayWrite g.plan u (length words) v
  may-write j low = inr (may.run, may.at, omega (arith, low, may.fits))

  -- the record is one of the table
  pub unit-near : u < units_of g.plan
  unit-near = fill-at g.plan u own_word.Result v (inr (may.run, may.at, tt))

  -- it may be placed with a reference more
  pub may-referred : (b found : ℕ) (w : View) → w ≡ saw (refs b) found (referred b v) → MayPlaceFrame g u n after words w
  may-referred b found w is = record {
    run = may.run;
    at = record { is_block = may.at.is_block; there = ap (λ (z : View). run_in u z.runs) is ∙ may.at.there };
    last = may.last;
    within = may.within;
    drawn = subst (λ (z : View). Has (drawn_for n u (OfTask may.run.task)) z.drawn) (sym is) may.drawn;
    task_row = ap (λ (z : View). times n z.no_task) is ∙ may.task_row;
    after_row = ap (λ (z : View). times n z.no_after) is ∙ may.after_row;
    accepted = subst (λ (z : View). Has (IsAccepted n (Respawn may.run.task after)) z.facts) (sym is) may.accepted;
    frame = may.frame;
    fits = may.fits;
    next = may.next;
    names = may.names;
    spare = record {
      there = λ y. omega (arith, may.spare.there y, ap (λ (z : View). times y z.futures) is);
      bag = subst (BagSound p) (λ k. record { futures = less (sym is k).futures names; runs = dropped (is_run_at u) (sym is k).runs })
          (more-cover p (dropped (is_run_at u) v.runs) (less v.futures names) (less (b ∷ v.futures) names)
          (λ y. omega (arith, times-less y v.futures names may.spare.there, times-less y (b ∷ v.futures) names (λ z. omega (arith, may.spare.there z)))) may.spare.bag);
    };
  }

  module _ (w : View) (wrote : WritesFrame u words v w) where
    at-written : (run : Run) → RunAt g.plan u v run → RunAt g.plan u w run
    at-written run at = record { is_block = at.is_block; there = ap (λ (z : View). run_in u z.runs) wrote.view_is ∙ at.there }

    -- it is behind no task, so it may start
    pub written-starts : after ≡ None → MayStartUnless false w n
    written-starts none = (
      Respawn may.run.task None,
      subst (λ (z : View). Has (IsAccepted n (Respawn may.run.task None)) z.facts) (sym wrote.view_is) (subst (λ (o : Option ℕ). Has (IsAccepted n (Respawn may.run.task o)) v.facts) none may.accepted),
      tt,
    )

    -- the number may be placed
    pub may-next : (waits : Bool) (started : Started) → started.unit ≡ u → MayStartUnless waits w n → MayPlaceNext g waits started n words w
    may-next waits started same starts = record {
      within = may.within;
      drawn = drawn_for n u (OfTask may.run.task);
      number_is = refl;
      run = may.run;
      at = subst (λ (m : ℕ). RunAt g.plan m w may.run) (sym same) (at-written may.run may.at);
      may = record {
        has = subst (λ (z : View). Has may.run z.runs) (sym wrote.view_is) (run-there u v.runs may.run may.at.there).0;
        its = sym run-unit;
        last = may.last;
        placeable = record {
          drawn = subst (λ (z : View). Has (drawn_for n u (OfTask may.run.task)) z.drawn) (sym wrote.view_is) may.drawn;
          task_row = ap (λ (z : View). times n z.no_task) wrote.view_is ∙ may.task_row;
          after_row = ap (λ (z : View). times n z.no_after) wrote.view_is ∙ may.after_row;
          is_frame = may.frame;
          known = subst (λ (m : ℕ). (j : ℕ) → j < length words → known_in (frame m j) w.known ≡ Some (slice_index words j)) (sym run-unit) wrote.known;
          held = λ y. omega (arith, may.spare.there y, ap (λ (z : View). times y z.futures) wrote.view_is);
          names = may.names;
        };
        next = may.next;
        starts = starts;
      };
      covers = λ was. subst (BagSound p) (λ k. record { futures = less (sym wrote.view_is k).futures names; runs = dropped (is_run_at (sym run-unit k)) (sym wrote.view_is k).runs }) may.spare.bag;
    }

    module _ (waits : Bool) (priority : Priority) (found : ℕ) (x : View)
        (tells : (run : Run) → RunAt g.plan u w run → x ≡ saw (state u) found (logged (placing_of waits u n priority words) (placed_next waits p run n words w))) (run : Run) (at : RunAt g.plan u v run) where
      its-unit : run.unit ≡ u
      its-unit = (run-there u v.runs run at.there).1

      raw : x ≡ saw (state u) found (logged (placing_of waits u n priority words) (placed_next waits p run n words (record v { known = w.known; seen = w.seen })))
      raw = tells run (at-written run at) ∙ (λ k. saw (state u) found (logged (placing_of waits u n priority words) (placed_next waits p run n words (wrote.view_is k))))

      -- what was seen of records is kept where a reference to them is left
      pub placed-sights : x.sights ≡ kept_sights (less v.futures names) v.sights
      placed-sights = ap (λ (z : View). z.sights) raw

      pub placed-facts : x.facts ≡ v.facts
      placed-facts = ap (λ (z : View). z.facts) raw

      pub placed-seen : x.seen ≡ ((state u, found) ∷ wrote.seen.0) ++ v.seen
      placed-seen = ap (λ (z : View). z.seen) raw ∙ ap (λ (l : List (Addr × ℕ)). (state u, found) ∷ l) wrote.seen.1

      -- the number is placed
      pub placed-view : x ≡ record v {
        runs = dropped (is_run_at u) v.runs;
        waiting = waiting_with waits u n v.waiting;
        known = x.known;
        futures = less v.futures names;
        sights = x.sights;
        drawn = dropped (is_drawn n) v.drawn;
        placings = placing_of waits u n priority words ∷ v.placings;
        answers = answers_left run.task v.answers;
        seen = x.seen;
      }
      placed-view = raw ∙ (λ k. record v {
        runs = dropped (is_run_at (its-unit k)) v.runs;
        waiting = waiting_with waits (its-unit k) n v.waiting;
        known = (sym raw k).known;
        futures = less v.futures names;
        sights = (sym raw k).sights;
        drawn = dropped (is_drawn n) v.drawn;
        placings = placing_of waits u n priority words ∷ v.placings;
        answers = answers_left run.task v.answers;
        seen = (sym raw k).seen;
      })

    -- the activation is ready
    pub placed-ready : (priority : Priority) (word : StateWord) (found : ℕ) (x : View) → ((run : Run) → RunAt g.plan u w run → x ≡ saw (state u) found (logged (placing_of false u n priority words) (placed_next false p run n words w)))
        → word ≡ word_placed false n priority → PlacesAgain g u n priority None words v (Some (entry_of u word)) x
    placed-ready priority word found x tells is =
        record {
          steps = (state u, found) ∷ wrote.seen.0;
          since = placed-seen false priority found x tells may.run may.at;
          enters = (refl, ap (λ (z : StateWord). z.number) is, inl (refl, priority-back priority word n is));
          facts = ([], placed-facts false priority found x tells may.run may.at);
          settles = ([], ap (λ (z : View). z.settles) (placed-view false priority found x tells may.run may.at));
          view_is = λ run at. let view = placed-view false priority found x tells run at in
              view ∙ (λ k. record v {
                runs = dropped (is_run_at u) v.runs;
                known = (sym view k).known;
                futures = less v.futures names;
                sights = (sym view k).sights;
                drawn = dropped (is_drawn n) v.drawn;
                placings = placing_of false u n priority words ∷ v.placings;
                answers = answers_left run.task v.answers;
                facts = (sym view k).facts;
                settles = (sym view k).settles;
                tries = (sym view k).tries;
                seen = (sym view k).seen;
              });
        }
