-- What comes of a new task whose record was made.
use Rattle.std.proofs.Common.{◌≡◌, ◌∙◌, ℕ, ◌+◌, ◌-◌, ◌≤◌, Bool, true, cond, Option, Some, None, List, ◌∷◌, ◌++◌, refl, sym, ap, subst, append_assoc, arith}
use Rattle.std.specs.Prelude.{IfSome}
use Rattle.std.proofs.lemmas.Bool.{eq-eqb}
use Rattle.record_core.specs.Counting.{Has, times, dropped}
use Rattle.task_meaning.specs.Worths.{Accepted}
use Rattle.ready_queues.specs.declared.entry.Entry.{Entry}
use Rattle.frame_code.specs.Moves.{passed_on}
use Rattle.frame_code.specs.Setting.{with_future}
use Rattle.frame_code.specs.Units.{named_in}
use Rattle.frame_code.specs.Words.{BodyOf, OfKind, OfMembers, body_of}
use Rattle.table_core.specs.Addresses.{Addr, sum}
use Rattle.table_core.specs.Asking.{OfTask, IsLimit}
use Rattle.table_core.specs.Holdings.{Made as MadeOf, Run, SawTask}
use Rattle.table_core.specs.Pool.{superblock_of}
use Rattle.table_core.specs.RecordViews.{is_at, is_made_at, new_made}
use Rattle.table_core.specs.Story.{IsAccepted}
use Rattle.table_core.specs.Views.{place, block}
use Rattle.table_core.specs.WaitViews.{is_run_at}
use Rattle.table_core.specs.declared.setup.Setup.{Setup}
use Rattle.table_core.specs.declared.view.View.{View}
use Rattle.schedule_rule.specs.DrawViews.{ask, changed, drawn_for, drew_for_run, give_number}
use Rattle.schedule_rule.specs.LifeViews.{with_words}
use Rattle.schedule_rule.specs.PlacingViews.{is_drawn, past_act, WasSeenAs}
use Rattle.step_table.specs.DrawSteps.{DrewNumber}
use Rattle.step_table.specs.PlacingSteps.{Placement, PlacedFor, runs_past, placing_of}
use Rattle.step_table.specs.declared.record_tokens.Future.{Future}
use Rattle.step_table.specs.declared.record_tokens.Made.{Made}
use Rattle.schedule_core.specs.Begins.{MetLimit}
use Rattle.schedule_core.specs.Making.{Offers, PlacesNumber, task_behind, waits_behind}
use Rattle.schedule_core.specs.Numbers.{GaveBack}
use Rattle.schedule_core.specs.PastFrames.{past_words}
use Rattle.schedule_core.specs.Runs.{IsInStep, IsSameState}
use Rattle.schedule_core.specs.SeenTasks.{unit_behind, task_seen}
use Rattle.schedule_core.specs.NewTasks.{GetsTask, IsMaking, Wants, MayPlaceTask, HasMade, asking_of, call_made, class_given}
use Rattle.schedule_core.specs.declared.making.Behind.{Behind}
use Rattle.schedule_core.specs.declared.running.Running.{Running}
use Rattle.schedule_core.specs.declared.new_tasks.NewTask.{NewTask}
use Rattle.schedule_core.proofs.ChangedRuns.{dropped-changed, changed-again}
use Rattle.schedule_core.proofs.PastFrames.{past-frame}
use Rattle.schedule_core.proofs.Placing.{drawn-later, has-before, enters-more}
use Rattle.schedule_core.proofs.AskingActs.{passes-on}
use Rattle.schedule_core.proofs.GivenCalls.{call-behind, call-over}
use Rattle.schedule_core.proofs.SpawnCalls.{seen-has}
use Rattle.schedule_core.proofs.SpawnMoves.{in-step-moved}
use Rattle.schedule_core.proofs.SpawnOffers.{placed_call, placed_for, drew_view}
use Rattle.schedule_core.proofs.SpawnSights.{named-futures}

-- a record that stands first is dropped
pub first-dropped : (u class : ℕ) (l : List MadeOf) → dropped (is_made_at u) (new_made (block u class true) ∷ l) ≡ l
first-dropped u class l = ap (λ (b : Bool). cond b l (new_made (block u class true) ∷ dropped (is_made_at u) l)) (eq-eqb u u refl)

-- a number that stands first is dropped
number-dropped : (n : ℕ) (l : List ℕ) → dropped (is_at n) (n ∷ l) ≡ l
number-dropped n l = ap (λ (b : Bool). cond b l (n ∷ dropped (is_at n) l)) (eq-eqb n n refl)

-- the record was given back: the limit is met
pub met-back : (g : Setup) (x : Running) (class : ℕ) (base : View) (made : Made) (v new : View) → IsMaking g x class base made v → GaveBack g made (OfTask x.task) v new → MetLimit g class (asking_of x) base new
met-back g x class base made v new m gave = record {
  saw = (
    gave.saw.0 ++ m.seen.0,
    gave.saw.1,
    gave.saw.2 ∙ ap (λ (l : List (Addr × ℕ)). gave.saw.0 ++ l) m.seen.1 ∙ sym (append_assoc gave.saw.0 m.seen.0 base.seen),
    has-before (sum 0, gave.saw.1) gave.saw.0 m.seen.0 gave.saw.3,
    gave.saw.4,
  );
  looks = (m.looks.0, ap (λ (w : View). w.looks) gave.view_is ∙ m.looks.1);
  sights = (m.sights.0, ap (λ (w : View). w.sights) gave.view_is ∙ m.sights.1);
  facts = (m.facts.0, ap (λ (w : View). w.facts) gave.view_is ∙ m.facts.1);
  superblock = superblock_of g.plan made.unit;
  view_is = whole
      ∙ (λ k. record base {
        made = first-dropped made.unit class base.made k;
        runs = changed (is_run_at x.started.unit) (with_words x.frame.items) base.runs;
        answers = record { asker = OfTask x.task; refusal = IsLimit } ∷ base.answers;
        wins = place (superblock_of g.plan made.unit) class ∷ base.wins;
        settles = place (superblock_of g.plan made.unit) (m.class_is k) ∷ base.settles;
        cleared = base.cleared + 1;
        may_draw = (sym whole k).may_draw;
        known = new.known;
        sights = (sym whole k).sights;
        facts = (sym whole k).facts;
        seen = new.seen;
        looks = (sym whole k).looks;
      });
}
  where
    whole : new ≡ record base {
      made = dropped (is_made_at made.unit) (new_made (block made.unit class true) ∷ base.made);
      runs = changed (is_run_at x.started.unit) (with_words x.frame.items) base.runs;
      answers = record { asker = OfTask x.task; refusal = IsLimit } ∷ base.answers;
      wins = place (superblock_of g.plan made.unit) class ∷ base.wins;
      settles = place (superblock_of g.plan made.unit) made.class ∷ base.settles;
      cleared = base.cleared + 1;
      may_draw = 0;
      known = new.known;
      sights = v.sights;
      facts = v.facts;
      seen = new.seen;
      looks = v.looks;
    }
    whole = gave.view_is ∙ (λ k. record (m.view_is k) {
      made = dropped (is_made_at made.unit) (m.view_is k).made;
      answers = record { asker = OfTask x.task; refusal = IsLimit } ∷ (m.view_is k).answers;
      settles = place (superblock_of g.plan made.unit) made.class ∷ (m.view_is k).settles;
      cleared = (m.view_is k).cleared + 1;
      may_draw = 0;
      known = new.known;
      seen = new.seen;
    })

-- a frame past its act is of its own kind
past-kind : (b : BodyOf ℕ) (to : ℕ) (unit : Option ℕ) → IsSameState (with_future to unit (passed_on b)) b
past-kind (OfKind q) to unit = (refl, refl)
past-kind (OfMembers units next) to unit = (refl, refl)

-- one more and one less is as many
one-back : (n : ℕ) → n + 1 - 1 ≡ n
one-back n = omega arith

-- a run that moved on, asked, and is past its act with its number placed
runs-past : (w : ℕ) (items past : List ℕ) (runs : List Run) → changed (is_run_at w) (past_act past) (changed (is_run_at w) ask (changed (is_run_at w) (with_words items) runs)) ≡ changed (is_run_at w) (with_words past) runs
runs-past w items past runs =
    changed-again (is_run_at w) ask (λ y. refl) (past_act past) (changed (is_run_at w) (with_words items) runs)
    ∙ changed-again (is_run_at w) (with_words items) (λ y. refl) (λ y. past_act past (ask y)) runs
    ∙ (λ k. changed (is_run_at w) (λ (y : Run). record y { unplaced = one-back y.unplaced k; words = past }) runs)

module _ (g : Setup) (x : Running) (made : Made) (new : NewTask) (behind : Option Behind) (placement : Placement) (v : View) (m : MayPlaceTask g x made new behind placement v)
    (found n : ℕ) (base : View) (wants : Wants g x new base) (making : IsMaking g x (class_given g.checked new.given) base made v)
    (future : Future) (entry : Option Entry) (after : View) where
  abbrev u : ℕ
  u = made.unit

  abbrev w : ℕ
  w = x.started.unit

  abbrev class : ℕ
  class = class_given g.checked new.given

  abbrev drew : View
  drew = drew_view g x made new behind placement v m found n

  abbrev past : List ℕ
  past = past_words g.checked x.frame.items new.to u

  abbrev call : Accepted
  call = call_made new.given behind v.sights

  module _ (offers : Offers g made n new.priority behind placement drew (future, entry) after) where
    offered : after ≡ record base {
      made = dropped (is_made_at u) (changed (is_made_at u) (give_number n) (new_made (block u class true) ∷ base.made));
      runs = runs_past placement.asked (changed (is_run_at w) ask (changed (is_run_at w) (with_words x.frame.items) base.runs));
      futures = u ∷ base.futures;
      drawn = dropped (is_drawn n) (drawn_for n u (OfTask x.task) ∷ base.drawn);
      no_task = dropped (is_at n) (n ∷ base.no_task);
      no_after = dropped (is_at n) (n ∷ base.no_after);
      calls = (n, placement.call) ∷ base.calls;
      wins = place (superblock_of g.plan u) class ∷ base.wins;
      may_draw = 0;
      placings = placing_of (waits_behind behind) u n new.priority placement.words ∷ base.placings;
      looks = v.looks;
      known = after.known;
      sights = after.sights;
      facts = after.facts;
      tries = after.tries;
      seen = after.seen;
    }
    offered = offers.view_is ∙ (λ k. record (drew_for_run u w x.task placement.call n (making.view_is k)) {
      made = dropped (is_made_at u) (changed (is_made_at u) (give_number n) (making.view_is k).made);
      runs = runs_past placement.asked (changed (is_run_at w) ask (making.view_is k).runs);
      futures = u ∷ (making.view_is k).futures;
      drawn = dropped (is_drawn n) (drawn_for n u (OfTask x.task) ∷ (making.view_is k).drawn);
      no_task = dropped (is_at n) (n ∷ (making.view_is k).no_task);
      placings = placing_of (waits_behind behind) u n new.priority placement.words ∷ (making.view_is k).placings;
      no_after = dropped (is_at n) (n ∷ (making.view_is k).no_after);
      known = after.known;
      facts = after.facts;
      sights = after.sights;
      tries = after.tries;
      seen = after.seen;
    })

    made_is : dropped (is_made_at u) (changed (is_made_at u) (give_number n) (new_made (block u class true) ∷ base.made)) ≡ base.made
    made_is = dropped-changed (is_made_at u) (give_number n) (λ y. refl) (new_made (block u class true) ∷ base.made) ∙ first-dropped u class base.made

    runs_are : runs_past placement.asked (changed (is_run_at w) ask (changed (is_run_at w) (with_words x.frame.items) base.runs)) ≡ changed (is_run_at w) (with_words past) base.runs
    runs_are = ap (λ (a : PlacedFor). runs_past a (changed (is_run_at w) ask (changed (is_run_at w) (with_words x.frame.items) base.runs))) (placed_for g x made new behind placement v m found n)
        ∙ runs-past w x.frame.items past base.runs

    drawn_is : dropped (is_drawn n) (drawn_for n u (OfTask x.task) ∷ base.drawn) ≡ base.drawn
    drawn_is = ap (λ (b : Bool). cond b base.drawn (drawn_for n u (OfTask x.task) ∷ dropped (is_drawn n) base.drawn)) (eq-eqb n n refl)

    -- it is placed with the first frame of what is asked for
    first_words : placement.words ≡ new.first.items
    first_words = ap (λ (y : Placement). y.words) m.placement_is

    -- the view, by the unit of the record
    by-unit : after ≡ record base {
      futures = u ∷ base.futures;
      runs = changed (is_run_at w) (with_words past) base.runs;
      calls = (n, call) ∷ base.calls;
      wins = place (superblock_of g.plan u) class ∷ base.wins;
      may_draw = 0;
      placings = placing_of (waits_behind behind) u n new.priority new.first.items ∷ base.placings;
      looks = after.looks;
      known = after.known;
      sights = after.sights;
      facts = after.facts;
      tries = after.tries;
      seen = after.seen;
    }
    by-unit = offered ∙ (λ k. record base {
      made = made_is k;
      runs = runs_are k;
      futures = u ∷ base.futures;
      drawn = drawn_is k;
      no_task = number-dropped n base.no_task k;
      no_after = number-dropped n base.no_after k;
      calls = (n, placed_call g x made new behind placement v m found n k) ∷ base.calls;
      wins = place (superblock_of g.plan u) class ∷ base.wins;
      may_draw = 0;
      placings = placing_of (waits_behind behind) u n new.priority (first_words k) ∷ base.placings;
      looks = (sym offered k).looks;
      known = after.known;
      sights = after.sights;
      facts = after.facts;
      tries = after.tries;
      seen = after.seen;
    })

    -- what was seen of what the frame names is seen still
    still : (unit : ℕ) → Has unit (named_in g.checked x.frame.items) → (t : ℕ) → Has (SawTask unit t) v.sights → Has (SawTask unit t) after.sights
    still unit has t seen = offers.kept (SawTask unit t) seen
        (omega (arith, named-futures g x base wants.in_step unit has, ap (λ (y : View). times unit y.futures) by-unit))

    behind_seen : WasSeenAs after new.behind (task_behind behind)
    behind_seen = subst (λ (o : Option ℕ). WasSeenAs after o (task_behind behind)) m.behind_is (by behind m.behind_is m.behind_seen)
      where
        by : (o : Option Behind) → unit_behind o ≡ new.behind → IfSome o (λ b. task_seen b.unit v.sights ≡ Some b.task) → WasSeenAs after (unit_behind o) (task_behind o)
        by None is seen = tt
        by (Some b) is seen = still b.unit (subst (λ (o : Option ℕ). IfSome o (λ y. Has y (named_in g.checked x.frame.items))) (sym is) wants.behind) b.task (seen-has b.unit b.task v.sights seen)

    abbrev drew_steps : List (Addr × ℕ)
    drew_steps = (sum 0, found) ∷ making.seen.0

    pub has-made : (1 ≤ n) × (n ≤ g.plan.limit) → n ≡ found + 1 → HasMade g x new base future entry after
    has-made within is_next = record {
      number = n;
      behind = behind;
      behind_is = m.behind_is;
      behind_seen = behind_seen;
      call = call;
      call_is = call-over v after new.given behind m.seen (λ y has. still y (wants.named has.0 y has.1));
      after_is = call-behind g.checked new.given new.behind new.first.items behind v.sights wants.begins m.behind_is m.behind_seen;
      gets = gets;
    }
      where
        placed : PlacesNumber g.plan.limit u n new.priority behind entry base after
        placed = record {
          within = within;
          steps = offers.steps ++ drew_steps;
          since = offers.since ∙ ap (λ (l : List (Addr × ℕ)). offers.steps ++ (sum 0, found) ∷ l) making.seen.1 ∙ sym (append_assoc offers.steps drew_steps base.seen);
          drawn = drawn-later n offers.steps drew_steps (found, is_next, (0, refl));
          enters = enters-more u n new.priority behind entry offers.steps drew_steps offers.enters;
        }

        gets : GetsTask g x new.to class new.priority n new.first.items call behind base future entry after
        gets = record {
          placed = subst (λ (y : ℕ). PlacesNumber g.plan.limit y n new.priority behind entry base after) (sym offers.future_is) placed;
          sees = subst (λ (y : ℕ). Has (SawTask y n) after.sights) (sym offers.future_is) offers.sees;
          facts = (
            offers.facts.0 ++ (IsAccepted n placement.call ∷ making.facts.0),
            offers.facts.1 ∙ ap (λ l. offers.facts.0 ++ IsAccepted n placement.call ∷ l) making.facts.1 ∙ sym (append_assoc offers.facts.0 (IsAccepted n placement.call ∷ making.facts.0) base.facts),
          );
          view_is = by-unit ∙ (λ k. record base {
            futures = sym offers.future_is k ∷ base.futures;
            runs = changed (is_run_at w) (with_words (past_words g.checked x.frame.items new.to (sym offers.future_is k))) base.runs;
            calls = (n, call) ∷ base.calls;
            wins = place (superblock_of g.plan (sym offers.future_is k)) class ∷ base.wins;
            may_draw = 0;
            placings = placing_of (waits_behind behind) (sym offers.future_is k) n new.priority new.first.items ∷ base.placings;
            looks = after.looks;
            known = after.known;
            sights = after.sights;
            facts = after.facts;
            tries = after.tries;
            seen = after.seen;
          });
        }

    pub made-in-step : IsInStep g x after
    made-in-step = in-step-moved g x past base after wants.in_step (ap (λ (y : View). y.runs) by-unit) (λ y. omega (arith, ap (λ (z : View). times y z.futures) by-unit))
        (subst (λ (b : BodyOf ℕ). IsSameState b (body_of g.checked x.frame.items)) (sym past_body) (past-kind (body_of g.checked x.frame.items) new.to (Some u)))
      where
        past_body : body_of g.checked past ≡ with_future new.to (Some u) (passed_on (body_of g.checked x.frame.items))
        past_body = (past-frame g.checked x.frame.items new.to u wants.formed wants.in_step.frame (passes-on g.checked new.to (body_of g.checked x.frame.items) wants.stands) wants.variable).1

-- behind the offer the task is made, and its asker goes on
pub makes-new : (g : Setup) (x : Running) (made it : Made) (new : NewTask) (behind : Option Behind) (placement : Placement) (n : ℕ) (v w after : View) (told : Future × Option Entry)
    → MayPlaceTask g x made new behind placement v → it ≡ made → DrewNumber g.plan.limit n v w (drew_for_run made.unit x.started.unit x.task placement.call n v) → Offers g it n new.priority behind placement w told after
    → (base : View) → Wants g x new base → IsMaking g x (class_given g.checked new.given) base made v → HasMade g x new base told.0 told.1 after × IsInStep g x after
makes-new g x made it new behind placement n v w after told m is d offers base wants making =
    (has-made g x made new behind placement v m d.found n base wants making told.0 told.1 after there d.is_new.within d.is_next, made-in-step g x made new behind placement v m d.found n base wants making told.0 told.1 after there)
  where
    there : Offers g made n new.priority behind placement (drew_view g x made new behind placement v m d.found n) told after
    there = subst (λ (y : View). Offers g made n new.priority behind placement y told after) d.view_is (subst (λ (y : Made). Offers g y n new.priority behind placement w told after) is offers)
