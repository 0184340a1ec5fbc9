-- The number of a running task's next activation is drawn, or the limit is met.
use Rattle.std.proofs.Common.{◌≡◌, ◌∙◌, ℕ, suc, Bool, false, cond, Option, Some, None, List, [], ◌∷◌, ◌++◌, refl, sym, ap, subst, append_assoc, arith}
use Rattle.std.specs.Prelude.{IfSome, slice_index, slice_get}
use Rattle.std.proofs.lemmas.Bool.{eq-eqb}
use Rattle.std.proofs.lemmas.Option.{none-some, same_Some}
use Rattle.record_core.specs.Counting.{At, times, dropped}
use Rattle.task_meaning.specs.Worths.{Respawn}
use Rattle.frame_code.specs.Words.{BodyOf, OfKind, OfMembers, body_at, body_of}
use Rattle.table_core.specs.Addresses.{Addr, sum, journal, task as task_word}
use Rattle.table_core.specs.Asking.{OfTask, IsLimit}
use Rattle.table_core.specs.Holdings.{Run, SawTask}
use Rattle.table_core.specs.RecordViews.{is_at}
use Rattle.table_core.specs.Story.{Fact, IsAccepted, IsTask as IsTaskFact}
use Rattle.table_core.specs.Views.{saw}
use Rattle.table_core.specs.declared.setup.Setup.{Setup}
use Rattle.table_core.specs.declared.view.View.{View}
use Rattle.table_core.proofs.BagFacts.{one-here}
use Rattle.schedule_rule.specs.DrawViews.{drew_again, drew_none, wrote_task, wrote_after, NextBehind, KnowsTask}
use Rattle.schedule_rule.specs.SoundViews.{SoundView}
use Rattle.step_table.specs.DrawSteps.{MaySeeDrawn, SeesDrawn, MayDrawAgain, DrewNumber, DrewNone}
use Rattle.step_table.specs.Lookups.{run_in}
use Rattle.step_table.specs.Passes.{view}
use Rattle.step_table.specs.RecordHands.{RunAt, HasFuture}
use Rattle.step_table.specs.RowSteps.{MayWriteTask, MayWriteAfter, WritesTask, WritesAfter}
use Rattle.step_table.specs.declared.pass.Pass.{Pass}
use Rattle.step_table.proofs.LookupFacts.{run-there}
use Rattle.schedule_core.specs.Making.{KnowsPredecessor, task_behind}
use Rattle.schedule_core.specs.SeenTasks.{unit_behind, with_behind}
use Rattle.schedule_core.specs.NextNumbers.{IsOpened, IsNextUnit, MayNumber, SawBehind, HasNumber, MetLimitNext, drew_next}
use Rattle.schedule_core.specs.References.{Grows}
use Rattle.schedule_core.specs.Runs.{IsSameState, IsInStep}
use Rattle.schedule_core.specs.declared.making.Behind.{Behind}
use Rattle.schedule_core.specs.declared.running.Running.{Running}

-- a running task may be told that the limit is met
pub may-see : (g : Setup) (x : Running) (v : View) → IsInStep g x v → MaySeeDrawn g (record { asker = Some (OfTask x.task); move = None }) v
may-see g x v s = record { asks = (s.run, (run-there x.started.unit v.runs s.run s.at.there).0, s.task_is, s.placed); moves = tt }

-- the load met the limit
pub load-met : (g : Setup) (task : ℕ) (before new : Pass) → SeesDrawn g.plan.limit (record { asker = Some (OfTask task); move = None }) before false new → MetLimitNext g task (view before) (view new)
load-met g task before new t = record {
  saw = ((sum 0, t.0) ∷ [], t.0, ap (λ (v : View). v.seen) t.2, (0, refl), t.1);
  facts = ([], ap (λ (v : View). v.facts) t.2);
  sights = ([], ap (λ (v : View). v.sights) t.2);
  view_is = t.2 ∙ (λ k. record (view before) {
    answers = record { asker = OfTask task; refusal = IsLimit } ∷ (view before).answers;
    may_draw = (sym t.2 k).may_draw;
    sights = (sym t.2 k).sights;
    facts = (sym t.2 k).facts;
    seen = (sym t.2 k).seen;
  });
}

-- the predecessor's task was seen just now, if there is one
behind-known : (behind : Option Behind) (v : View) → IfSome (task_behind behind) (KnowsTask (with_behind behind v))
behind-known None v = tt
behind-known (Some b) v = (b.unit, (0, refl))

-- what an activation is behind is known: an aggregate's is the next member, whose task was seen just now
next-known : (a b : BodyOf ℕ) (wanted : Option ℕ) (behind : Option Behind) (v : View) → IsSameState a b → IsNextUnit wanted b → unit_behind behind ≡ wanted → NextBehind (with_behind behind v) (task_behind behind) a
next-known (OfKind q) (OfKind now) wanted behind v same next is = behind-known behind v
next-known (OfKind q) (OfMembers units at) wanted behind v same next is = absurd same
next-known (OfMembers units next) (OfKind now) wanted behind v same next' is = absurd same
next-known (OfMembers units next) (OfMembers us at) wanted None v same there is = absurd (none-some (there.0) (is ∙ there.2))
next-known (OfMembers units next) (OfMembers us at) wanted (Some b) v same there is = (
  b.unit,
  b.task,
  subst (λ (u : ℕ). At units next u) (same_Some there.0 b.unit (sym there.2 ∙ sym is)) (subst (λ (l : List ℕ). At l next there.0) same.0 (subst (λ (k : ℕ). At us k there.0) same.1 there.1)),
  (0, refl),
  refl,
)

-- a view is as before but for what was seen of the predecessor
behind-runs : (behind : Option Behind) (v : View) → (with_behind behind v).runs ≡ v.runs
behind-runs None v = refl
behind-runs (Some b) v = refl

behind-may_draw : (behind : Option Behind) (v : View) → (with_behind behind v).may_draw ≡ v.may_draw
behind-may_draw None v = refl
behind-may_draw (Some b) v = refl

abbrev behind-steps : Option Behind → List (Addr × ℕ)
behind-steps None = []
behind-steps (Some b) = (task_word b.unit, b.task) ∷ []

behind-seen : (behind : Option Behind) (v : View) → (with_behind behind v).seen ≡ behind-steps behind ++ v.seen
behind-seen None v = refl
behind-seen (Some b) v = refl

behind-facts : (behind : Option Behind) (v : View) → Grows v.facts (with_behind behind v).facts
behind-facts None v = ([], refl)
behind-facts (Some b) v = (IsTaskFact b.task ∷ [], refl)

behind-sights : (behind : Option Behind) (v : View) → Grows v.sights (with_behind behind v).sights
behind-sights None v = ([], refl)
behind-sights (Some b) v = (SawTask b.unit b.task ∷ [], refl)

behind-is : (behind : Option Behind) (v : View) → with_behind behind v ≡ record v { sights = (with_behind behind v).sights; facts = (with_behind behind v).facts; seen = (with_behind behind v).seen }
behind-is None v = refl
behind-is (Some b) v = refl

saw-behind : (behind : Option Behind) (front more : List (Addr × ℕ)) → SawBehind behind (front ++ (behind-steps behind ++ more))
saw-behind None front more = tt
saw-behind (Some b) [] more = (0, refl)
saw-behind (Some b) (x ∷ front) more = let t = saw-behind (Some b) front more in (suc t.0, t.1)

module _ (g : Setup) (x : Running) (wanted : Option ℕ) (v w : View) (behind : Option Behind) (may : MayNumber g x wanted v) (is : w ≡ with_behind behind v) where
  abbrev run_is : Run
  run_is = may.in_step.run

  -- the run is there still
  runs-same : w.runs ≡ may.base.runs
  runs-same = ap (λ (z : View). z.runs) is ∙ behind-runs behind v ∙ ap (λ (z : View). z.runs) may.opened.2

  at-run : RunAt g.plan x.started.unit w run_is
  at-run = record { is_block = may.in_step.at.is_block; there = ap (λ l. run_in x.started.unit l) runs-same ∙ may.in_step.at.there }

  -- the number may be drawn
  pub may-draw : unit_behind behind ≡ wanted → MayDrawAgain g x.started.unit x.task (task_behind behind) w
  may-draw behind_is = record {
    permission = ap (λ (z : View). z.may_draw) is ∙ behind-may_draw behind v ∙ ap (λ (z : View). z.may_draw) may.opened.2;
    run = run_is;
    at = at-run;
    task_is = may.in_step.task_is;
    unasked = may.in_step.unasked;
    idle = may.in_step.placed;
    behind_is = subst (λ (z : View). NextBehind z (task_behind behind) (body_at g.checked (slice_index run_is.words))) (sym is)
        (next-known (body_at g.checked (slice_index run_is.words)) (body_of g.checked x.frame.items) wanted behind v may.in_step.same may.next behind_is);
  }

  abbrev after : Option ℕ
  after = task_behind behind

  abbrev first_found : ℕ
  first_found = may.opened.0

  -- the view is that before the total was seen, but for what was seen
  view-opened : w ≡ record may.base { may_draw = 1; sights = w.sights; facts = w.facts; seen = w.seen }
  view-opened = is ∙ behind-is behind v ∙ (λ k. record (may.opened.2 k) { sights = (sym is k).sights; facts = (sym is k).facts; seen = (sym is k).seen })

  abbrev old-steps : List (Addr × ℕ)
  old-steps = behind-steps behind ++ (sum 0, first_found) ∷ []

  seen-opened : w.seen ≡ old-steps ++ may.base.seen
  seen-opened = ap (λ (z : View). z.seen) is ∙ behind-seen behind v ∙ ap (λ (z : View). behind-steps behind ++ z.seen) may.opened.2
      ∙ sym (append_assoc (behind-steps behind) ((sum 0, first_found) ∷ []) may.base.seen)

  facts-opened : Grows may.base.facts w.facts
  facts-opened = ((behind-facts behind v).0, ap (λ (z : View). z.facts) is ∙ (behind-facts behind v).1 ∙ ap (λ (z : View). (behind-facts behind v).0 ++ z.facts) may.opened.2)

  sights-opened : Grows may.base.sights w.sights
  sights-opened = ((behind-sights behind v).0, ap (λ (z : View). z.sights) is ∙ (behind-sights behind v).1 ∙ ap (λ (z : View). (behind-sights behind v).0 ++ z.sights) may.opened.2)

  -- the draw met the limit
  pub draw-met : (new : View) → DrewNone g.plan.limit new (drew_none (OfTask x.task) w) → MetLimitNext g x.task may.base new
  draw-met new none = record {
    saw = (
      (sum 0, none.found) ∷ old-steps,
      none.found,
      ap (λ (z : View). z.seen) none.view_is ∙ ap (λ (l : List (Addr × ℕ)). (sum 0, none.found) ∷ l) seen-opened,
      (0, refl),
      none.is_met,
    );
    facts = (facts-opened.0, ap (λ (z : View). z.facts) none.view_is ∙ facts-opened.1);
    sights = (sights-opened.0, ap (λ (z : View). z.sights) none.view_is ∙ sights-opened.1);
    view_is = none.view_is ∙ (λ k. saw (sum 0) none.found (drew_none (OfTask x.task) (view-opened k)))
        ∙ (λ k. record may.base {
          answers = record { asker = OfTask x.task; refusal = IsLimit } ∷ may.base.answers;
          may_draw = (sym none.view_is k).may_draw;
          sights = (sym none.view_is k).sights;
          facts = (sym none.view_is k).facts;
          seen = (sym none.view_is k).seen;
        });
  }

  module _ (n : ℕ) (drew : View) (won : DrewNumber g.plan.limit n w drew (drew_again x.started.unit x.task (Respawn x.task after) n w)) where
    -- the task's row of the number may be written
    pub may-row_task : MayWriteTask g.plan n x.task drew
    may-row_task = record {
      inside = won.is_new.within.1;
      lacks = omega (arith, one-here n, ap (λ (z : View). times n z.no_task) won.view_is);
      call = Respawn x.task after;
      knows = (0, ap (λ (z : View). slice_get z.facts 0) won.view_is);
      task_is = refl;
    }

    -- and then that of the predecessor
    pub may-row_after : (before then : Pass) → view before ≡ drew → WritesTask n before then → MayWriteAfter g.plan n after (view then)
    may-row_after before then same wrote = record {
      inside = won.is_new.within.1;
      lacks = omega (
        arith,
        one-here n,
        ap (λ (z : View). times n z.no_after) won.view_is,
        ap (λ (z : View). times n z.no_after) wrote.view_is,
        ap (λ (z : View). times n z.no_after) same,
      );
      call = Respawn x.task after;
      knows = (0, ap (λ (z : View). slice_get z.facts 0) wrote.view_is ∙ ap (λ (z : View). slice_get z.facts 0) same ∙ ap (λ (z : View). slice_get z.facts 0) won.view_is);
      behind_is = refl;
    }

    gone : (l : List ℕ) → dropped (is_at n) (n ∷ l) ≡ l
    gone l = ap (λ (b : Bool). cond b l (n ∷ dropped (is_at n) l)) (eq-eqb n n refl)

    knows-behind : (b : Option Behind) (u v' : View) → IfSome (unit_behind b) (λ m. HasFuture g.plan m u) → v'.futures ≡ u.futures → v'.sights ≡ (with_behind b u).sights → KnowsPredecessor g.plan b v'
    knows-behind None u v' has futures sights = tt
    knows-behind (Some b) u v' has futures sights =
        (record { near = has.near; there = omega (arith, has.there, ap (λ (l : List ℕ). times b.unit l) futures) }, (0, ap (λ l. slice_get l 0) sights))

    module _ (before then last : Pass) (same : view before ≡ drew) (task_row : WritesTask n before then) (after_row : WritesAfter n then last) where
      abbrev new : View
      new = view last

      abbrev steps : View → View
      steps z = saw (journal n 1) after_row.found (wrote_after n (saw (journal n 0) task_row.found (wrote_task n (saw (sum 0) won.found (drew_again x.started.unit x.task (Respawn x.task after) n z)))))

      told : new ≡ steps w
      told = after_row.view_is ∙ (λ k. saw (journal n 1) after_row.found (wrote_after n (task_row.view_is k)))
          ∙ (λ k. saw (journal n 1) after_row.found (wrote_after n (saw (journal n 0) task_row.found (wrote_task n ((same ∙ won.view_is) k)))))

      -- the run has the number
      pub draw-won : unit_behind behind ≡ wanted → SoundView g new → HasNumber g x wanted n behind may.base new
      draw-won behind_is sound = record {
        within = won.is_new.within;
        behind_is = behind_is;
        knows = knows-behind behind v new (subst (λ (o : Option ℕ). IfSome o (λ m. HasFuture g.plan m v)) (sym behind_is) may.has)
            (ap (λ (z : View). z.futures) told ∙ ap (λ (z : View). z.futures) is ∙ ap (λ (z : View). z.futures) (behind-is behind v))
            (ap (λ (z : View). z.sights) told ∙ ap (λ (z : View). z.sights) is);
        task_row = ap (λ (z : View). times n z.no_task) told ∙ ap (λ (l : List ℕ). times n l) (gone w.no_task) ∙ won.is_new.task_written;
        after_row = ap (λ (z : View). times n z.no_after) told ∙ ap (λ (l : List ℕ). times n l) (gone w.no_after) ∙ won.is_new.after_written;
        accepted = (0, ap (λ (z : View). slice_get z.facts 0) told);
        steps = (journal n 1, after_row.found) ∷ (journal n 0, task_row.found) ∷ (sum 0, won.found) ∷ old-steps;
        since = ap (λ (z : View). z.seen) told ∙ ap (λ (l : List (Addr × ℕ)). (journal n 1, after_row.found) ∷ (journal n 0, task_row.found) ∷ (sum 0, won.found) ∷ l) seen-opened;
        drawn = (won.found, won.is_next, (2, refl));
        saw = saw-behind behind ((journal n 1, after_row.found) ∷ (journal n 0, task_row.found) ∷ (sum 0, won.found) ∷ []) ((sum 0, first_found) ∷ []);
        facts = (
          IsAccepted n (Respawn x.task after) ∷ facts-opened.0,
          ap (λ (z : View). z.facts) told ∙ ap (λ (l : List Fact). IsAccepted n (Respawn x.task after) ∷ l) facts-opened.1,
        );
        sound = sound;
        view_is = told ∙ (λ k. steps (view-opened k))
            ∙ (λ k. record (drew_next x.started.unit x.task after n may.base) {
              no_task = gone may.base.no_task k;
              no_after = gone may.base.no_after k;
              sights = (sym told k).sights;
              facts = (sym told k).facts;
              seen = (sym told k).seen;
            });
      }

-- whatever the view was before the total was seen
abbrev pub may-of : (g : Setup) (x : Running) (wanted : Option ℕ) (v base : View) → MayNumber g x wanted v → IsInStep g x base → IsOpened g base v → MayNumber g x wanted v
may-of g x wanted v base may in_step opened = record { base = base; in_step = in_step; next = may.next; opened = opened; has = may.has }
