-- What making records leaves, before any has ended.
use Rattle.std.specs.Prelude.{◌≡◌, ℕ, ◌<◌, ◌≤◌, List, ◌∷◌}
use Rattle.record_core.specs.Counting.{At, Has, times}
use Rattle.kt_words.specs.declared.plan.Plan.{Plan}
use Rattle.table_core.specs.Addresses.{units_of}
use Rattle.table_core.specs.Holdings.{Run, Sight, SawTask, seen_at}
use Rattle.table_core.specs.Story.{Fact}
use Rattle.table_core.specs.declared.setup.Setup.{Setup}
use Rattle.table_core.specs.declared.view.View.{View}
use Rattle.schedule_rule.specs.SoundViews.{SoundView}
use Rattle.step_table.specs.declared.record_tokens.Started.{Started}
use Rattle.wait_rows.specs.declared.hand.Hand.{Hand}
use Rattle.wait_rows.specs.declared.stage.Stage.{Stage}
use Rattle.wait_rows.specs.declared.stage.Stage.TheVariants as stage
use Rattle.wait_rows.specs.Hands.{RunsAt, IsHand}

-- No reference is less, and nothing that is known is forgotten, nor what was seen of a record to which there is a reference.
pub record Still (v w : View) : Type 0 where
  pub futures : (y : ℕ) → times y v.futures ≤ times y w.futures
  pub sights : (s : Sight) → 1 ≤ times (seen_at s) v.futures → Has s v.sights → Has s w.sights
  pub facts : (f : Fact) → Has f v.facts → Has f w.facts

-- A record more runs, at unit u, by no number of which another is unplaced. The pass has a reference to it, and has seen its task.
pub record Runs (g : Setup) (s : Started) (u : ℕ) (old new : View) : Type 0 where
  pub near : u < units_of g.plan
  pub stands : RunsAt g.plan u s new
  pub run : Run
  pub unit_is : run.unit ≡ u
  pub runs : new.runs ≡ run ∷ old.runs
  pub done : new.done ≡ old.done
  pub waiting : new.waiting ≡ old.waiting
  pub refers : 1 ≤ times u new.futures
  pub saw : Has (SawTask u s.number) new.sights
  pub still : Still old new
  pub sound : SoundView g new

abbrev pub IsRunningStage : Stage → Type 0
IsRunningStage (stage.Running s) = Unit {0}
IsRunningStage (stage.Done f) = ⊥
IsRunningStage stage.Closed = ⊥

-- all records with lists run
abbrev pub AllRun : List Stage → Type 0
AllRun stages = (i : ℕ) (s : Stage) → At stages i s → IsRunningStage s

-- a hand of which no record has ended
pub record IsOpenHand (g : Plan) (hand : Hand) (v : View) : Type 0 where
  pub is_hand : IsHand g hand v
  pub all_run : AllRun hand.stages.items
