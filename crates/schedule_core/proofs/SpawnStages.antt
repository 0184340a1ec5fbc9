-- A new task stage by stage: its number may be drawn.
use Rattle.std.proofs.Common.{◌≡◌, ◌∙◌, ℕ, Bool, true, false, cond, Option, Some, List, refl, sym, ap, subst}
use Rattle.std.specs.Prelude.{slice_index}
use Rattle.std.proofs.lemmas.Bool.{eq-eqb}
use Rattle.task_meaning.specs.Worths.{Accepted}
use Rattle.task_syntax.specs.declared.program.Program.{Program}
use Rattle.frame_code.specs.Control.{is_aggregate, control_at}
use Rattle.frame_code.specs.Words.{OfKind, OfMembers, frame_at, members_at}
use Rattle.table_core.specs.Holdings.{Made as MadeOf, Run}
use Rattle.table_core.specs.RecordViews.{new_made}
use Rattle.table_core.specs.Views.{block}
use Rattle.table_core.specs.WaitViews.{is_run_at}
use Rattle.table_core.specs.declared.setup.Setup.{Setup}
use Rattle.table_core.specs.declared.view.View.{View}
use Rattle.schedule_rule.specs.CoveringLaws.{StandsAsking}
use Rattle.schedule_rule.specs.LifeViews.{with_words}
use Rattle.step_table.specs.DrawSteps.{MayDrawForRun}
use Rattle.step_table.specs.Lookups.{made_in, run_in}
use Rattle.step_table.specs.PlacingSteps.{Placement}
use Rattle.step_table.specs.RecordHands.{MadeAt, RunAt, MayUnmake}
use Rattle.step_table.specs.declared.record_tokens.Made.{Made}
use Rattle.schedule_core.specs.NewTasks.{IsMaking, MayPlaceTask, call_made, class_given}
use Rattle.schedule_core.specs.declared.making.Behind.{Behind}
use Rattle.schedule_core.specs.declared.running.Running.{Running}
use Rattle.schedule_core.specs.declared.new_tasks.NewTask.{NewTask}
use Rattle.schedule_core.proofs.ChangedRuns.{first-changed}
use Rattle.schedule_core.proofs.GivenCalls.{knows-call, class-is}

-- a task that asks for another is no aggregate
pub single-asks : (p : Program) (to : ℕ) (words : List ℕ) → StandsAsking p to (cond (is_aggregate (slice_index words 0)) (OfMembers (members_at (slice_index words)) (control_at (slice_index words 0))) (OfKind (frame_at p (slice_index words))))
    → is_aggregate (slice_index words 0) ≡ false
single-asks p to words asks = by (is_aggregate (slice_index words 0)) asks
  where
    by : (b : Bool) → StandsAsking p to (cond b (OfMembers (members_at (slice_index words)) (control_at (slice_index words 0))) (OfKind (frame_at p (slice_index words)))) → b ≡ false
    by true asks' = absurd asks'
    by false asks' = refl

module _ (g : Setup) (x : Running) (made : Made) (new : NewTask) (behind : Option Behind) (placement : Placement) (v : View) (m : MayPlaceTask g x made new behind placement v) where
  abbrev base : View
  base = m.make.base

  abbrev u : ℕ
  u = made.unit

  abbrev class : ℕ
  class = class_given g.checked new.given

  abbrev making : IsMaking g x class base made v
  making = m.make.making

  -- the record in the making
  abbrev pub its_made : MadeOf
  its_made = new_made (block u class true)

  pub its-made : MadeAt g.plan u v its_made
  its-made = record {
    is_block = making.is_block;
    there = ap (λ (w : View). made_in u w.made) making.view_is ∙ ap (λ (b : Bool). cond b (Some its_made) (made_in u base.made)) (eq-eqb u u refl);
  }

  -- its spawner
  abbrev pub its_run : Run
  its_run = with_words x.frame.items m.make.wants.in_step.run

  pub its-run : RunAt g.plan x.started.unit v its_run
  its-run = record {
    is_block = m.make.wants.in_step.at.is_block;
    there = ap (λ (w : View). run_in x.started.unit w.runs) making.view_is
        ∙ first-changed (is_run_at x.started.unit) (with_words x.frame.items) (λ y. refl) base.runs m.make.wants.in_step.run m.make.wants.in_step.at.there;
  }

  call_is : placement.call ≡ call_made new.given behind v.sights
  call_is = ap (λ (y : Placement). y.call) m.placement_is

  -- the number may be drawn
  pub may-draw : MayDrawForRun g u x.started.unit x.task placement.call v
  may-draw = subst (λ (call : Accepted). MayDrawForRun g u x.started.unit x.task call v) (sym call_is) (record {
    permission = ap (λ (w : View). w.may_draw) making.view_is;
    knows = knows-call g.checked new.given new.behind new.first.items behind v m.make.wants.begins m.seen m.behind_seen;
    made = record {
      made = its_made;
      at = its-made;
      unnumbered = refl;
      class_is = class-is g.checked new.given behind v.sights;
    };
    run = its_run;
    at = its-run;
    task_is = m.make.wants.in_step.task_is;
    single = single-asks g.checked new.to x.frame.items m.make.wants.stands;
    idle = m.make.wants.in_step.placed;
  })

  -- and without one the record may be a block again
  pub may-unmake : MayUnmake g.plan u made.class v
  may-unmake = record { made = its_made; at = its-made; class_is = sym making.class_is; no_number = refl; not_live = refl }
