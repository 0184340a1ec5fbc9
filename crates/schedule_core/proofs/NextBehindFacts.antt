-- A running task's next activation is placed behind a task, with one reference more to that task's record in the meantime.
use Rattle.std.proofs.Common.{◌≡◌, ◌∙◌, inr, ℕ, ◌≤◌, Bool, true, cond, Option, Some, None, List, [], ◌∷◌, ◌++◌, refl, sym, ap, subst, append_assoc, arith}
use Rattle.std.proofs.lemmas.Bool.{eq-eqb}
use Rattle.record_core.specs.Counting.{Has, times, one_if, dropped}
use Rattle.task_syntax.specs.declared.program.Program.{Program}
use Rattle.task_syntax.specs.declared.value.Priority.{Priority}
use Rattle.task_meaning.specs.Worths.{Respawn}
use Rattle.ready_queues.specs.declared.entry.Entry.{Entry}
use Rattle.frame_code.specs.Units.{named_in}
use Rattle.table_core.specs.Addresses.{Addr, state, refs}
use Rattle.table_core.specs.Holdings.{Run, Waiter, Sight, SawTask}
use Rattle.table_core.specs.RecordViews.{is_at, referred}
use Rattle.table_core.specs.Story.{Fact, IsAccepted}
use Rattle.table_core.specs.Views.{saw}
use Rattle.table_core.specs.WaitViews.{is_run_at, is_waiter_at, new_waiter}
use Rattle.table_core.specs.declared.setup.Setup.{Setup}
use Rattle.table_core.specs.declared.view.View.{View}
use Rattle.schedule_rule.specs.Frames.{BagSound}
use Rattle.schedule_rule.specs.LifeViews.{answers_left}
use Rattle.schedule_rule.specs.PlacingViews.{less, kept_sights, is_drawn, logged}
use Rattle.schedule_rule.proofs.PlacingFacts.{times-less}
use Rattle.step_table.specs.Lookups.{run_in, waiter_in}
use Rattle.step_table.specs.PlacingSteps.{placed_next, placing_of}
use Rattle.step_table.specs.RecordHands.{RunAt, HasFuture, MayLessen}
use Rattle.wait_lists.specs.Joining.{MayJoin}
use Rattle.schedule_core.specs.Making.{Enters, EntersClosed, JoinsBehind}
use Rattle.schedule_core.specs.FrameWords.{WritesFrame}
use Rattle.schedule_core.specs.NextPlaces.{MayPlaceFrame, IsPlacedAgain, PlacesAgain}
use Rattle.schedule_core.specs.References.{DropsEach}
use Rattle.schedule_core.proofs.LessParts.{less-added}
use Rattle.schedule_core.proofs.KeptSights.{kept-has}
use Rattle.schedule_core.proofs.Placing.{closed-more, enters-later}
use Rattle.schedule_core.proofs.NextPlaceFacts.{may-referred, unit-near, placed-view, placed-sights, placed-facts, placed-seen}

-- The task is t, and its record at b.
module _ (g : Setup) (u n b t found : ℕ) (words : List ℕ) (v cloned w : View) (may : MayPlaceFrame g u n (Some t) words v) (is : cloned ≡ saw (refs b) found (referred b v)) (wrote : WritesFrame u words cloned w) where
  abbrev p : Program
  p = g.checked

  abbrev names : List ℕ
  names = named_in g.checked words

  may_cloned : MayPlaceFrame g u n (Some t) words cloned
  may_cloned = may-referred g u n (Some t) words v may b found cloned is

  -- the run is there still
  at-cloned : (run : Run) → RunAt g.plan u v run → RunAt g.plan u cloned run
  at-cloned run at = record { is_block = at.is_block; there = ap (λ (z : View). run_in u z.runs) is ∙ at.there }

  -- the pass has a reference to the record still
  left-one : 1 ≤ times b (less cloned.futures names)
  left-one = omega (
    arith,
    ap (λ (z : View). times b z.futures) is,
    ap one_if (eq-eqb b b refl),
    may.spare.there b,
    times-less b cloned.futures names may_cloned.spare.there,
  )

  module _ (priority : Priority) (at_state : ℕ) (x : View)
      (tells : (run : Run) → RunAt g.plan u w run → x ≡ saw (state u) at_state (logged (placing_of true u n priority words) (placed_next true p run n words w))) where
    abbrev the_run : Run
    the_run = may.run

    sights-left : x.sights ≡ kept_sights (less cloned.futures names) cloned.sights
    sights-left = placed-sights g u n (Some t) words cloned may_cloned w wrote true priority at_state x tells the_run (at-cloned the_run may.at)

    facts-left : x.facts ≡ v.facts
    facts-left = placed-facts g u n (Some t) words cloned may_cloned w wrote true priority at_state x tells the_run (at-cloned the_run may.at) ∙ ap (λ (z : View). z.facts) is

    placed : (run : Run) (at : RunAt g.plan u v run) → x ≡ record cloned {
      runs = dropped (is_run_at u) cloned.runs;
      waiting = new_waiter u n ∷ cloned.waiting;
      known = x.known;
      futures = less cloned.futures names;
      sights = x.sights;
      drawn = dropped (is_drawn n) cloned.drawn;
      placings = placing_of true u n priority words ∷ cloned.placings;
      answers = answers_left run.task cloned.answers;
      seen = x.seen;
    }
    placed run at = placed-view g u n (Some t) words cloned may_cloned w wrote true priority at_state x tells run (at-cloned run at)

    futures-left : x.futures ≡ less cloned.futures names
    futures-left = ap (λ (z : View). z.futures) (placed the_run may.at)

    abbrev steps-left : List (Addr × ℕ)
    steps-left = ((state u, at_state) ∷ wrote.seen.0) ++ (refs b, found) ∷ []

    seen-left : x.seen ≡ steps-left ++ v.seen
    seen-left = placed-seen g u n (Some t) words cloned may_cloned w wrote true priority at_state x tells the_run (at-cloned the_run may.at)
        ∙ ap (λ (z : View). ((state u, at_state) ∷ wrote.seen.0) ++ z.seen) is
        ∙ sym (append_assoc ((state u, at_state) ∷ wrote.seen.0) ((refs b, found) ∷ []) v.seen)

    -- it may join the list
    pub may-join : HasFuture g.plan b v → Has (SawTask b t) v.sights → MayJoin g.plan b u x
    may-join has saw_it = record {
      future = record { near = has.near; there = omega (arith, left-one, ap (λ (l : List ℕ). times b l) futures-left) };
      waiter = new_waiter u n;
      at = record {
        near = unit-near g u n (Some t) words v may;
        there = ap (λ (z : View). waiter_in u z.waiting) (placed the_run may.at) ∙ ap (λ (c : Bool). cond c (Some (new_waiter u n)) (waiter_in u cloned.waiting)) (eq-eqb u u refl);
      };
      behind = (
        Respawn the_run.task (Some t),
        t,
        subst (λ (l : List Fact). Has (IsAccepted n (Respawn the_run.task (Some t))) l) (sym facts-left) may.accepted,
        subst (λ (l : List Sight). Has (SawTask b t) l) (sym sights-left)
            (kept-has (less cloned.futures names) cloned.sights (SawTask b t) left-one (subst (λ (z : View). Has (SawTask b t) z.sights) (sym is) saw_it)),
        refl,
      );
    }

    module _ (told : Option Entry) (y : View) (joined : JoinsBehind g u (record { unit = b; task = t }) x told y) where
      -- the reference may be given up again
      pub may-drop : HasFuture g.plan b v → MayLessen g b y
      may-drop has = record {
        has = record { near = has.near; there = omega (arith, left-one, ap (λ (l : List ℕ). times b l) futures-left, ap (λ (z : View). times b z.futures) joined.view_is) };
        spare = λ was. subst (BagSound p) (λ k. record { futures = back k; runs = runs-back k }) may.spare.bag;
      }
        where
          back : less v.futures names ≡ dropped (is_at b) y.futures
          back = sym (
              ap (λ (z : View). dropped (is_at b) z.futures) joined.view_is ∙ ap (λ (l : List ℕ). dropped (is_at b) l) futures-left
              ∙ ap (λ (z : View). dropped (is_at b) (less z.futures names)) is ∙ less-added b v.futures names
              )

          runs-back : dropped (is_run_at u) v.runs ≡ y.runs
          runs-back = sym (ap (λ (z : View). z.runs) joined.view_is ∙ ap (λ (z : View). z.runs) (placed the_run may.at) ∙ ap (λ (z : View). dropped (is_run_at u) z.runs) is)

      module _ (z : View) (gives : DropsEach (b ∷ []) y z) where
        gone : (l : List Waiter) → dropped (is_waiter_at u) (new_waiter u n ∷ l) ≡ l
        gone l = ap (λ (c : Bool). cond c l (new_waiter u n ∷ dropped (is_waiter_at u) l)) (eq-eqb u u refl)

        abbrev steps-joined : List (Addr × ℕ)
        steps-joined = joined.steps ++ steps-left

        abbrev steps-all : List (Addr × ℕ)
        steps-all = gives.seen.0 ++ steps-joined

        seen-joined : y.seen ≡ steps-joined ++ v.seen
        seen-joined = joined.since ∙ ap (λ (l : List (Addr × ℕ)). joined.steps ++ l) seen-left ∙ sym (append_assoc joined.steps steps-left v.seen)

        seen-all : z.seen ≡ steps-all ++ v.seen
        seen-all = gives.seen.1 ∙ ap (λ (l : List (Addr × ℕ)). gives.seen.0 ++ l) seen-joined ∙ sym (append_assoc gives.seen.0 steps-joined v.seen)

        enters-joined : (task : ℕ) (o : Option Entry) → EntersClosed u b x o joined.steps → Enters u n priority (Some (record { unit = b; task = task })) o steps-joined
        enters-joined task None opened = (
          record { unit = b; task = task },
          refl,
          record { later = joined.steps; before = wrote.seen.0 ++ (refs b, found) ∷ []; found = at_state; parts = refl; unclosed = opened },
        )
        enters-joined task (Some e) enters = (
          enters.0,
          enters.1 (new_waiter u n) (ap (λ (s : View). waiter_in u s.waiting) (placed the_run may.at) ∙ ap (λ (c : Bool). cond c (Some (new_waiter u n)) (waiter_in u cloned.waiting)) (eq-eqb u u refl)),
          inr (record { unit = b; task = task }, refl, closed-more u b e joined.steps steps-left enters.2),
        )

        enters-all : (task : ℕ) → Enters u n priority (Some (record { unit = b; task = task })) told steps-all
        enters-all task = enters-later u n priority (Some (record { unit = b; task = task })) told gives.seen.0 steps-joined gives.elsewhere (enters-joined task told joined.enters)

        view-placed : IsPlacedAgain g u n words (placing_of true u n priority words) v z
        view-placed run at = all ∙ (λ k. record v {
          runs = dropped (is_run_at u) v.runs;
          waiting = gone v.waiting k;
          known = (sym all k).known;
          futures = less-added b v.futures names k;
          sights = (sym all k).sights;
          drawn = dropped (is_drawn n) v.drawn;
          placings = placing_of true u n priority words ∷ v.placings;
          answers = answers_left run.task v.answers;
          facts = (sym all k).facts;
          settles = (sym all k).settles;
          tries = (sym all k).tries;
          seen = (sym all k).seen;
        })
          where
            all : z ≡ record v {
              runs = dropped (is_run_at u) v.runs;
              waiting = dropped (is_waiter_at u) (new_waiter u n ∷ v.waiting);
              known = x.known;
              futures = dropped (is_at b) (less (b ∷ v.futures) names);
              sights = z.sights;
              drawn = dropped (is_drawn n) v.drawn;
              placings = placing_of true u n priority words ∷ v.placings;
              answers = answers_left run.task v.answers;
              facts = y.facts;
              settles = z.settles;
              tries = y.tries;
              seen = z.seen;
            }
            all = gives.view_is
                ∙ (λ k. record (joined.view_is k) { futures = dropped (is_at b) (joined.view_is k).futures; sights = z.sights; settles = z.settles; seen = z.seen })
                ∙ (λ k. record (placed run at k) {
                  waiting = dropped (is_waiter_at u) (placed run at k).waiting;
                  facts = y.facts;
                  tries = y.tries;
                  futures = dropped (is_at b) (placed run at k).futures;
                  sights = z.sights;
                  settles = z.settles;
                  seen = z.seen;
                })
                ∙ (λ k. record (is k) {
                  runs = dropped (is_run_at u) (is k).runs;
                  waiting = dropped (is_waiter_at u) (new_waiter u n ∷ (is k).waiting);
                  known = x.known;
                  futures = dropped (is_at b) (less (is k).futures names);
                  sights = z.sights;
                  drawn = dropped (is_drawn n) (is k).drawn;
                  placings = placing_of true u n priority words ∷ (is k).placings;
                  answers = answers_left run.task (is k).answers;
                  facts = y.facts;
                  tries = y.tries;
                  settles = z.settles;
                  seen = z.seen;
                })

        -- it is placed
        pub placed-behind : (task : ℕ) → PlacesAgain g u n priority (Some (record { unit = b; task = task })) words v told z
        placed-behind task = record {
          steps = steps-all;
          since = seen-all;
          enters = enters-all task;
          facts = (joined.facts.0, ap (λ (s : View). s.facts) gives.view_is ∙ joined.facts.1 ∙ ap (λ (l : List Fact). joined.facts.0 ++ l) facts-left);
          settles = (gives.settles.0, gives.settles.1 ∙ ap (λ (s : View). gives.settles.0 ++ s.settles) joined.view_is ∙ ap (λ (s : View). gives.settles.0 ++ s.settles) (placed the_run may.at) ∙ ap (λ (s : View). gives.settles.0 ++ s.settles) is);
          view_is = view-placed;
        }
