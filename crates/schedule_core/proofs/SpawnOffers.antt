-- A new task stage by stage: the made record with its number may be offered.
use Rattle.std.proofs.Common.{◌≡◌, ◌∙◌, ℕ, Option, Some, None, List, ◌∷◌, refl, sym, ap, subst, arith}
use Rattle.std.specs.Prelude.{IfSome, slice_index}
use Rattle.record_core.specs.Counting.{Has}
use Rattle.kt_words.specs.Capacity.{block_units}
use Rattle.task_meaning.specs.Worths.{Accepted}
use Rattle.frame_code.specs.Frames.{IsFrame}
use Rattle.frame_code.specs.Names.{named}
use Rattle.frame_code.specs.Units.{named_in}
use Rattle.frame_code.specs.Words.{body_at, body_of}
use Rattle.table_core.specs.Asking.{OfTask}
use Rattle.table_core.specs.Holdings.{Made as MadeOf, Run}
use Rattle.table_core.specs.RecordViews.{is_made_at}
use Rattle.table_core.specs.Views.{saw}
use Rattle.table_core.specs.Addresses.{sum}
use Rattle.table_core.specs.WaitViews.{is_run_at}
use Rattle.table_core.specs.declared.setup.Setup.{Setup}
use Rattle.table_core.specs.declared.view.View.{View}
use Rattle.table_core.proofs.BagFacts.{one-here}
use Rattle.schedule_rule.specs.Calls.{task_in, after_in}
use Rattle.schedule_rule.specs.CoveringLaws.{IsActPast}
use Rattle.schedule_rule.specs.Counts.{class_in}
use Rattle.schedule_rule.specs.DrawViews.{ask, drawn_for, drew_for_run, give_number}
use Rattle.schedule_rule.specs.Frames.{BagSound}
use Rattle.schedule_rule.specs.PlacingViews.{IsFirstFrame, with_act_past}
use Rattle.schedule_rule.specs.SoundViews.{SoundView}
use Rattle.schedule_rule.proofs.CoveringFacts.{acts-cover}
use Rattle.schedule_rule.proofs.PlacingFactsFrames.{first-fits, formed-same}
use Rattle.step_table.specs.DrawSteps.{DrewNumber, IsNewNumber}
use Rattle.step_table.specs.PlacingSteps.{Placement, PlacedFor, ForRun, IsFor, runs_past}
use Rattle.step_table.specs.RecordHands.{RunAt}
use Rattle.step_table.specs.declared.record_tokens.Made.{Made}
use Rattle.step_table.proofs.LookupFacts.{run-there}
use Rattle.step_table.proofs.PlacingCovers.{by-run}
use Rattle.schedule_core.specs.Making.{MayFillNew, MayOffer, KnowsPredecessor, task_behind}
use Rattle.schedule_core.specs.PastFrames.{past_words}
use Rattle.schedule_core.specs.References.{HasEach}
use Rattle.schedule_core.specs.SeenTasks.{task_seen, unit_behind}
use Rattle.schedule_core.specs.NewTasks.{MayPlaceTask, Wants, call_made}
use Rattle.schedule_core.specs.declared.making.Behind.{Behind}
use Rattle.schedule_core.specs.declared.running.Running.{Running}
use Rattle.schedule_core.specs.declared.new_tasks.NewTask.{NewTask}
use Rattle.schedule_core.proofs.AskingActs.{passes-on}
use Rattle.schedule_core.proofs.ChangedRuns.{first-changed}
use Rattle.schedule_core.proofs.Offering.{first-kept}
use Rattle.schedule_core.proofs.PastFrames.{past-frame}
use Rattle.schedule_core.proofs.GivenCalls.{first-frame, names-given, class-is, call-new, call-behind}
use Rattle.schedule_core.proofs.SpawnCalls.{seen-has}
use Rattle.schedule_core.proofs.SpawnSights.{named-has}
use Rattle.schedule_core.proofs.SpawnStages.{its_made, its-made, its_run, its-run}

module _ (g : Setup) (x : Running) (made : Made) (new : NewTask) (behind : Option Behind) (placement : Placement) (v : View) (m : MayPlaceTask g x made new behind placement v)
    (found n : ℕ) where
  abbrev base : View
  base = m.make.base

  abbrev wants : Wants g x new base
  wants = m.make.wants

  abbrev u : ℕ
  u = made.unit

  abbrev by_unit : ℕ
  by_unit = x.started.unit

  abbrev past : List ℕ
  past = past_words g.checked x.frame.items new.to u

  -- the view behind the draw
  abbrev pub drew_view : View
  drew_view = saw (sum 0) found (drew_for_run u by_unit x.task placement.call n v)

  pub placed_call : placement.call ≡ call_made new.given behind v.sights
  placed_call = ap (λ (y : Placement). y.call) m.placement_is

  pub placed_for : placement.asked ≡ ForRun by_unit past
  placed_for = ap (λ (y : Placement). y.asked) m.placement_is

  -- the spawner's frame is past its act
  pub past-is : IsFrame g.checked past × IsActPast g.checked x.frame.items past u
  past-is =
      let t = past-frame g.checked x.frame.items new.to u wants.formed wants.in_step.frame (passes-on g.checked new.to (body_of g.checked x.frame.items) wants.stands) wants.variable in
      (t.0, record { variable = new.to; asks = wants.stands; is = t.1 })

  -- the frame is the first one of the call
  first : IsFirstFrame g.checked v placement.call (body_at g.checked (slice_index new.first.items))
  first = subst (λ (a : Accepted). IsFirstFrame g.checked v a (body_at g.checked (slice_index new.first.items))) (sym placed_call)
      (first-frame g.checked new.given new.behind new.first.items behind v wants.formed wants.begins m.seen)

  first-there : IsFirstFrame g.checked drew_view placement.call (body_at g.checked (slice_index new.first.items))
  first-there = first-kept g.checked v drew_view refl placement.call (body_at g.checked (slice_index new.first.items)) first

  futures_are : v.futures ≡ base.futures
  futures_are = ap (λ (y : View). y.futures) m.make.making.view_is

  -- what the first frame names is given
  held : HasEach g.plan (named g.checked (slice_index new.first.items)) drew_view
  held k w at =
      let there = names-given g.checked new.given new.behind new.first.items wants.begins w (k, at) in
      named-has g x base wants.in_step drew_view futures_are m.make.making.near w (wants.named there.0 w there.1)

  class_is : made.class ≡ class_in g.checked (Some placement.call)
  class_is = m.make.making.class_is ∙ class-is g.checked new.given behind v.sights ∙ ap (λ (a : Accepted). class_in g.checked (Some a)) (sym placed_call)

  abbrev its : MadeOf
  its = its_made g x made new behind placement v m

  abbrev run : Run
  run = ask (its_run g x made new behind placement v m)

  run-at : RunAt g.plan by_unit drew_view run
  run-at = record {
    is_block = (its-run g x made new behind placement v m).is_block;
    there = first-changed (is_run_at by_unit) ask (λ y. refl) v.runs (its_run g x made new behind placement v m) (its-run g x made new behind placement v m).there;
  }

  abbrev fills : IsNewNumber g.plan.limit n v → MayFillNew g made n (task_behind behind) new.first.items drew_view
  fills is_new = record {
    rows = record {
      holding = give_number n its;
      at = record {
        is_block = (its-made g x made new behind placement v m).is_block;
        there = first-changed (is_made_at u) (give_number n) (λ y. refl) v.made its (its-made g x made new behind placement v m).there;
      };
      numbered = refl;
      some = λ e. absurd (omega (arith, is_new.within.0, e));
      uncounted = refl;
      inside = is_new.within.1;
      lacks_task = omega (arith, is_new.task_written, one-here n);
      lacks_after = omega (arith, is_new.after_written, one-here n);
      call = placement.call;
      accepted = (0, refl);
      is_new = ap (λ (a : Accepted). task_in (Some a) n) placed_call ∙ call-new new.given behind v.sights n;
      behind_is = call-behind g.checked new.given new.behind new.first.items behind v.sights wants.begins m.behind_is m.behind_seen ∙ sym (ap (λ (a : Accepted). after_in (Some a)) placed_call);
    };
    class_is = sym m.make.making.class_is;
    frame = wants.frame;
    fits = omega (arith, wants.frame.size, first-fits g.checked new.first.items wants.frame drew_view placement.call first-there, ap block_units class_is);
    held = held;
  }

  knows : KnowsPredecessor g.plan behind drew_view
  knows = by behind m.behind_is m.behind_seen
    where
      by : (o : Option Behind) → unit_behind o ≡ new.behind → IfSome o (λ b. task_seen b.unit v.sights ≡ Some b.task) → KnowsPredecessor g.plan o drew_view
      by None is seen = tt
      by (Some b) is seen = (
        named-has g x base wants.in_step drew_view futures_are m.make.making.near b.unit (subst (λ (o : Option ℕ). IfSome o (λ w. Has w (named_in g.checked x.frame.items))) (sym is) wants.behind),
        seen-has b.unit b.task v.sights seen,
      )

  -- all that is needed
  may-offer_drew : IsNewNumber g.plan.limit n v → SoundView g drew_view → MayOffer g made n behind new.first.items placement drew_view
  may-offer_drew is_new sound = record {
    fills = fills is_new;
    words_are = ap (λ (y : Placement). y.words) m.placement_is;
    call_is = refl;
    drawn = drawn_for n u (OfTask x.task);
    there = (0, refl);
    number_is = refl;
    first = first-there;
    names = wants.names;
    predecessor = knows;
    asked = subst (λ (a : PlacedFor). IsFor g (drawn_for n u (OfTask x.task)) a drew_view) (sym placed_for)
        (by-run g drew_view (drawn_for n u (OfTask x.task)) by_unit u past run sound.records run-at (ap (λ (t : ℕ). OfTask t) (sym wants.in_step.task_is)) past-is.1
        (formed-same g.checked past past-is.0 (slice_index past) (λ j low. refl)));
    covers = subst (λ (a : PlacedFor). BagSound g.checked (record { futures = u ∷ drew_view.futures; runs = runs_past a drew_view.runs })) (sym placed_for) covers;
  }
    where
      there : Has run drew_view.runs × (run.unit ≡ by_unit)
      there = run-there by_unit drew_view.runs run run-at.there

      covers : BagSound g.checked (record { futures = u ∷ drew_view.futures; runs = with_act_past by_unit past drew_view.runs })
      covers = subst (λ (w : ℕ). BagSound g.checked (record { futures = u ∷ drew_view.futures; runs = with_act_past w past drew_view.runs })) there.1
          (acts-cover g.checked drew_view.futures drew_view.runs run there.0 (omega (arith, sound.records.once run.unit)) past u past-is.1 sound.records.bag)

-- behind the draw the record may be offered
pub may-offer : (g : Setup) (x : Running) (made it : Made) (new : NewTask) (behind : Option Behind) (placement : Placement) (n : ℕ) (v w : View) → MayPlaceTask g x made new behind placement v
    → it ≡ made → DrewNumber g.plan.limit n v w (drew_for_run made.unit x.started.unit x.task placement.call n v) → SoundView g w → MayOffer g it n behind new.first.items placement w
may-offer g x made it new behind placement n v w m is d sound = subst (λ (y : Made). MayOffer g y n behind new.first.items placement w) (sym is)
    (subst (MayOffer g made n behind new.first.items placement) (sym d.view_is) (may-offer_drew g x made new behind placement v m d.found n d.is_new (subst (SoundView g) d.view_is sound)))
