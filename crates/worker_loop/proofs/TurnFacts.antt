-- What a take and a look at the living records leave of an idle pass.
use Rattle.std.proofs.Common.{◌≡◌, ◌∙◌, inl, inr, ℕ, Some, None, [], ◌∷◌, ap, arith}
use Rattle.std.specs.Option.{option_to_list}
use Rattle.kt_words.specs.declared.state_word.StateWord.{StateWord}
use Rattle.ready_queues.specs.Moments.{Moment}
use Rattle.ready_queues.specs.declared.entry.Entry.{Entry}
use Rattle.table_core.specs.Addresses.{sum}
use Rattle.table_core.specs.Views.{IsIdle, saw}
use Rattle.table_core.specs.declared.setup.Setup.{Setup}
use Rattle.table_core.specs.declared.view.View.{View}
use Rattle.schedule_rule.specs.DrawViews.{saw_live}
use Rattle.step_table.specs.Passes.{view}
use Rattle.step_table.specs.declared.pass.Pass.{Pass}
use Rattle.schedule_core.specs.Taking.{Takes, held_with}
use Rattle.schedule_core.specs.declared.answers.Taken.TheVariants as taken
use Rattle.schedule_core.specs.declared.running.Running.{Running}
use Rattle.worker_loop.specs.Working.{others, Runs, IsFree, SawNoneLive}
use Rattle.worker_loop.proofs.CallFacts.{taken-alone}
use Rattle.worker_loop.proofs.HandFacts.{others-idle, idle-of}

sights-idle : (old new : View) → IsIdle old → new ≡ record old { sights = new.sights; seen = new.seen } → IsIdle new
sights-idle old new idle is = idle-of new (ap others is ∙ others-idle old idle) (ap (λ (z : View). z.runs) is ∙ idle.0.runs) (ap (λ (z : View). z.futures) is ∙ idle.0.futures) (ap (λ (z : View). z.chains) is ∙ idle.0.chains)
    (ap (λ (z : View). z.answers) is ∙ idle.0.answers)

module _ (g : Setup) (lanes begun : ℕ) (saw_of : Moment → Type 0) (old new : Pass) (free : IsFree old) where
  -- the task that was taken is all that the pass has
  pub taken-runs : (x : Running) → Takes g lanes begun saw_of (view old) (taken.Task x) (view new) → new.held ≡ held_with g old.held (Some x) → Runs g x [] new
  taken-runs x (inl (entry, tells, takes)) held = record { alone = taken-alone g entry.unit entry.number entry.priority (view old) x (view new) free.idle takes; made_is = ap option_to_list takes.made_is; count = omega (arith, held, free.count) }
  taken-runs x (inr (tells, (spilled, (entry, ready, takes)))) held = record { alone = taken-alone g entry.unit entry.number entry.priority (view old) x (view new) free.idle takes; made_is = ap option_to_list takes.made_is; count = omega (arith, held, free.count) }

  -- and nothing was refused to it
  pub taken-unrefused : (x : Running) → Takes g lanes begun saw_of (view old) (taken.Task x) (view new) → x.refused ≡ None
  taken-unrefused x (inl (entry, tells, takes)) = takes.refused_is
  taken-unrefused x (inr (tells, (spilled, (entry, ready, takes)))) = takes.refused_is

  -- it is idle where none was
  pub passed-free : (entry : Entry) (found : StateWord) → Takes g lanes begun saw_of (view old) (taken.Passed entry found) (view new) → new.held ≡ old.held → IsFree new
  passed-free entry found (inl (tells, passes)) held = record { idle = sights-idle (view old) (view new) free.idle passes.view_is; count = held ∙ free.count }
  passed-free entry found (inr (tells, (spilled, (ready, passes)))) held = record { idle = sights-idle (view old) (view new) free.idle passes.view_is; count = held ∙ free.count }

  pub empty-free : Takes g lanes begun saw_of (view old) taken.Empty (view new) → new.held ≡ old.held → IsFree new
  empty-free (tells, (none, sights, is)) held = record { idle = sights-idle (view old) (view new) free.idle is; count = held ∙ free.count }

-- a look at the living records changes nothing in the hand
pub live-free : (roots found : ℕ) (old new : Pass) → IsFree old → view new ≡ saw (sum 1) found (saw_live roots found (view old)) → new.held ≡ old.held → IsFree new
live-free roots found old new free is held = record {
  idle = idle-of (view new) (ap others is ∙ others-idle (view old) free.idle) (ap (λ (z : View). z.runs) is ∙ free.idle.0.runs) (ap (λ (z : View). z.futures) is ∙ free.idle.0.futures)
      (ap (λ (z : View). z.chains) is ∙ free.idle.0.chains) (ap (λ (z : View). z.answers) is ∙ free.idle.0.answers);
  count = held ∙ free.count;
}

pub live-none : (roots found : ℕ) (old new : Pass) → view new ≡ saw (sum 1) found (saw_live roots found (view old)) → found ≡ 0 → SawNoneLive new
live-none roots found old new is none = (_, ap (λ (z : View). z.seen) is ∙ ap (λ (n : ℕ). (sum 1, n) ∷ (saw_live roots found (view old)).seen) none)
