-- A running task stays in step while its pass goes on with a spawn, and a record is made for the new task.
use Rattle.std.proofs.Common.{◌≡◌, ◌∙◌, ℕ, ◌<◌, ◌≤◌, Bool, true, false, cond, List, [], ◌∷◌, refl, sym, ap, subst, arith}
use Rattle.std.specs.Prelude.{slice_index}
use Rattle.record_core.specs.Counting.{times, dropped}
use Rattle.task_syntax.specs.declared.program.Program.{Program}
use Rattle.frame_code.specs.Control.{is_aggregate, control_at}
use Rattle.frame_code.specs.Frames.{IsFrame}
use Rattle.frame_code.specs.Names.{named}
use Rattle.frame_code.specs.Ways.{BodyHasWay}
use Rattle.frame_code.specs.Words.{BodyOf, OfKind, OfMembers, frame_at, members_at, body_at, body_of}
use Rattle.table_core.specs.Addresses.{units_of}
use Rattle.table_core.specs.Holdings.{Run}
use Rattle.table_core.specs.Lists.{Each}
use Rattle.table_core.specs.Pool.{superblock_of}
use Rattle.table_core.specs.RecordViews.{new_made}
use Rattle.table_core.specs.Views.{place, block}
use Rattle.table_core.specs.WaitViews.{is_run_at}
use Rattle.table_core.specs.declared.setup.Setup.{Setup}
use Rattle.table_core.specs.declared.view.View.{View}
use Rattle.schedule_rule.specs.CoveringLaws.{StandsAsking}
use Rattle.schedule_rule.specs.DrawViews.{changed}
use Rattle.schedule_rule.specs.Frames.{BagSound}
use Rattle.schedule_rule.specs.LifeViews.{with_words, IsMovedFrame}
use Rattle.schedule_rule.specs.PlacingViews.{less}
use Rattle.schedule_rule.proofs.CoveringFacts.{more-cover}
use Rattle.schedule_rule.proofs.PlacingFacts.{times-less}
use Rattle.schedule_rule.proofs.PlacingFactsFrames.{formed-same}
use Rattle.memory_pool.specs.Answers.{Gives}
use Rattle.step_table.specs.DrawSteps.{Asking, MaySeeDrawn}
use Rattle.step_table.specs.Lookups.{run_in}
use Rattle.step_table.specs.Passes.{block_of}
use Rattle.step_table.specs.declared.record_tokens.Made.{Made}
use Rattle.step_table.specs.declared.tokens.Block.{Block}
use Rattle.step_table.proofs.LookupFacts.{run-there}
use Rattle.schedule_core.specs.Begins.{HasBegun, MayMakeIn, MetLimit}
use Rattle.schedule_core.specs.Runs.{IsInStep, IsSameState}
use Rattle.schedule_core.specs.NewTasks.{IsMaking, MayMakeInBlock, Wants, asking_of}
use Rattle.schedule_core.specs.declared.running.Running.{Running}
use Rattle.schedule_core.specs.declared.new_tasks.NewTask.{NewTask}
use Rattle.schedule_core.proofs.BagFacts.{bag-moved}
use Rattle.schedule_core.proofs.ChangedRuns.{dropped-changed, first-changed}

-- a frame is of its own kind
pub kind-self : (b : BodyOf ℕ) → IsSameState b b
kind-self (OfKind q) = (refl, refl)
kind-self (OfMembers units next) = (refl, refl)

-- where the frame of the run is of the same kind and no reference is gone, the task is in step still
pub in-step-moved : (g : Setup) (x : Running) (words : List ℕ) (old new : View) → IsInStep g x old → new.runs ≡ changed (is_run_at x.started.unit) (with_words words) old.runs
    → ((w : ℕ) → times w old.futures ≤ times w new.futures) → IsSameState (body_of g.checked words) (body_of g.checked x.frame.items) → IsInStep g x new
in-step-moved g x words old new s runs_is more same = record {
  run = with_words words s.run;
  at = record {
    is_block = s.at.is_block;
    there = ap (λ (l : List Run). run_in x.started.unit l) runs_is ∙ first-changed (is_run_at x.started.unit) (with_words words) (λ y. refl) old.runs s.run s.at.there;
  };
  number_is = s.number_is;
  task_is = s.task_is;
  placed = s.placed;
  unasked = s.unasked;
  frame = s.frame;
  way = s.way;
  names = s.names;
  same = same;
  spare = record {
    there = there;
    bag = more-cover g.checked (dropped (is_run_at x.started.unit) new.runs) (less old.futures names) (less new.futures names)
        (λ w. omega (arith, more w, times-less w old.futures names s.spare.there, times-less w new.futures names there))
        (subst (λ (l : List Run). BagSound g.checked (record { futures = less old.futures names; runs = l }))
        (sym (ap (dropped (is_run_at x.started.unit)) runs_is ∙ dropped-changed (is_run_at x.started.unit) (with_words words) (λ y. refl) old.runs)) s.spare.bag);
  };
}
  where
    names : List ℕ
    names = named g.checked (slice_index x.frame.items)

    there : (w : ℕ) → times w names ≤ times w new.futures
    there w = omega (arith, s.spare.there w, more w)

-- also where the limit was met
pub met-in-step : (g : Setup) (x : Running) (class : ℕ) (old new : View) → IsInStep g x old → MetLimit g class (asking_of x) old new → IsInStep g x new
met-in-step g x class old new s met =
    in-step-moved g x x.frame.items old new s (ap (λ (v : View). v.runs) met.view_is) (λ w. omega (arith, ap (λ (v : View). times w v.futures) met.view_is)) (kind-self (body_of g.checked x.frame.items))

-- a frame that stands where it asks has moved on from an earlier one of its task
moved-frame : (p : Program) (to : ℕ) (words next : List ℕ) → StandsAsking p to (body_of p next) → IsSameState (body_at p (slice_index words)) (body_of p next) → BodyHasWay p (body_of p next) → IsFrame p next
    → IsMovedFrame p words next
moved-frame p to words next asks same way frame = by (is_aggregate (slice_index words 0)) refl (is_aggregate (slice_index next 0)) refl asks same way
  where
    body : List ℕ → Bool → BodyOf ℕ
    body l b = cond b (OfMembers (members_at (slice_index l)) (control_at (slice_index l 0))) (OfKind (frame_at p (slice_index l)))

    by : (b : Bool) → is_aggregate (slice_index words 0) ≡ b → (d : Bool) → is_aggregate (slice_index next 0) ≡ d → StandsAsking p to (body next d) → IsSameState (body words b) (body next d) → BodyHasWay p (body next d)
        → IsMovedFrame p words next
    by b e true e' asks' same' way' = absurd asks'
    by true e false e' asks' same' way' = absurd same'
    by false e false e' asks' same' way' = record { single = e; next_single = e'; kind = same'.0; way = way'; formed = formed-same p next frame (slice_index next) (λ j low. refl) }

-- leave to draw may be asked for a task that asks, as far as it has come
pub may-see : (g : Setup) (x : Running) (new : NewTask) (v : View) → Wants g x new v → MaySeeDrawn g (asking_of x) v
may-see g x new v wants = record {
  asks = let t = run-there x.started.unit v.runs s.run s.at.there in (s.run, t.0, s.task_is, s.placed);
  moves = record {
    run = s.run;
    at = s.at;
    idle = s.placed;
    frame = moved-frame g.checked new.to s.run.words x.frame.items wants.stands s.same s.way s.frame;
    covers = λ was. bag-moved g.checked v.futures (named g.checked (slice_index x.frame.items)) x.frame.items v.runs x.started.unit s.run s.at.there s.way (λ w. omega arith) s.spare.there s.spare.bag;
  };
}
  where
    s : IsInStep g x v
    s = wants.in_step

-- so a record may be made
pub may-make : (g : Setup) (x : Running) (new : NewTask) (b : Block) (asking : Asking) (v : View) → asking ≡ asking_of x → MayMakeInBlock g x new b v → MayMakeIn g b asking v
may-make g x new b asking v is may = subst (λ (a : Asking). MayMakeIn g b a v) (sym is) (record {
  base = may.base;
  gives = subst (λ (c : ℕ). Gives g.plan c may.base (block_of b) v) (sym may.gives.of_class) may.gives;
  later = may.later;
  may = may-see g x new may.base may.wants;
})

-- what comes of that, by the class of what is given
pub begun-making : (g : Setup) (x : Running) (class c : ℕ) (asking : Asking) (base : View) (made : Made) (v : View) → asking ≡ asking_of x → c ≡ class → HasBegun g c asking base made v → IsMaking g x class base made v
begun-making g x class c asking base made v is class_is has' = record {
  is_block = has.is_block;
  class_is = has.class_is;
  seen = has.seen;
  looks = has.looks;
  sights = ([], ap (λ (w : View). w.sights) has.view_is);
  facts = ([], ap (λ (w : View). w.facts) has.view_is);
  near = subst (λ (l : List ℕ). Each (λ u. u < units_of g.plan) l) (ap (λ (w : View). w.futures) has.view_is) has.sound.records.near;
  view_is = has.view_is ∙ (λ k. record base {
    made = new_made (block made.unit class true) ∷ base.made;
    runs = changed (is_run_at x.started.unit) (with_words x.frame.items) base.runs;
    wins = place (superblock_of g.plan made.unit) class ∷ base.wins;
    may_draw = 1;
    seen = v.seen;
    looks = v.looks;
    sights = (sym has.view_is k).sights;
    facts = (sym has.view_is k).facts;
  });
}
  where
    has : HasBegun g class (asking_of x) base made v
    has = subst (λ (d : ℕ). HasBegun g d (asking_of x) base made v) class_is (subst (λ (a : Asking). HasBegun g c a base made v) is has')

pub met-class : (g : Setup) (x : Running) (class c : ℕ) (asking : Asking) (base new : View) → asking ≡ asking_of x → c ≡ class → MetLimit g c asking base new → MetLimit g class (asking_of x) base new
met-class g x class c asking base new is class_is met = subst (λ (d : ℕ). MetLimit g d (asking_of x) base new) class_is (subst (λ (a : Asking). MetLimit g c a base new) is met)
