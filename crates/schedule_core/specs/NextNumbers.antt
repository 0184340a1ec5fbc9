-- What is needed to draw the number of a running task's next activation, and what that leaves.
use Rattle.std.specs.Prelude.{◌≡◌, ℕ, ◌<◌, ◌≤◌, Option, Some, None, IfSome, List, ◌∷◌, ◌++◌}
use Rattle.record_core.specs.Counting.{At, Has, times}
use Rattle.task_meaning.specs.Worths.{Respawn}
use Rattle.frame_code.specs.Words.{BodyOf, OfKind, OfMembers, body_of}
use Rattle.table_core.specs.Addresses.{Addr, sum, task as task_word}
use Rattle.table_core.specs.Asking.{OfTask, IsLimit}
use Rattle.table_core.specs.Story.{IsAccepted}
use Rattle.table_core.specs.Views.{saw}
use Rattle.table_core.specs.declared.setup.Setup.{Setup}
use Rattle.table_core.specs.declared.view.View.{View}
use Rattle.schedule_rule.specs.DrawViews.{permitted, asking_again, drawn_for}
use Rattle.schedule_rule.specs.SoundViews.{IsUpTo, SoundView}
use Rattle.step_table.specs.DrawSteps.{Asking}
use Rattle.step_table.specs.RecordHands.{HasFuture}
use Rattle.schedule_core.specs.Making.{FoundDrawn, KnowsPredecessor, task_behind}
use Rattle.schedule_core.specs.References.{Grows}
use Rattle.schedule_core.specs.Runs.{IsInStep}
use Rattle.schedule_core.specs.SeenTasks.{unit_behind}
use Rattle.schedule_core.specs.declared.making.Behind.{Behind}
use Rattle.schedule_core.specs.declared.running.Running.{Running}

-- the total of drawn numbers is seen for the task
abbrev pub asking_for : ℕ → Asking
asking_for task = record { asker = Some (OfTask task); move = None }

-- the total of drawn numbers was seen below the limit in the step before, so the pass may draw one
abbrev pub IsOpened : Setup → View → View → Type 0
IsOpened g old new = (found : ℕ) × (found < g.plan.limit) × (new ≡ saw (sum 0) found (permitted old))

-- an aggregate's next activation is to be behind its next member, by the unit of that one's record
abbrev pub IsNextUnit : Option ℕ → BodyOf ℕ → Type 0
IsNextUnit wanted (OfKind q) = Unit {0}
IsNextUnit wanted (OfMembers units next) = (u : ℕ) × At units next u × (wanted ≡ Some u)

-- A number may be drawn for the next activation of a running task, which is to be behind the task of the record at this unit, or none.
pub record MayNumber (g : Setup) (x : Running) (wanted : Option ℕ) (v : View) : Type 0 where
  pub base : View
  pub in_step : IsInStep g x base
  pub next : IsNextUnit wanted (body_of g.checked x.frame.items)
  pub opened : IsOpened g base v
  pub has : IfSome wanted (λ u. HasFuture g.plan u v)

-- the run has the number n for its next activation, which is behind this task or none
abbrev pub drew_next : ℕ → ℕ → Option ℕ → ℕ → View → View
drew_next unit task behind n v = record v {
  runs = asking_again unit v.runs;
  drawn = drawn_for n unit (OfTask task) ∷ v.drawn;
  calls = (n, Respawn task behind) ∷ v.calls;
  may_draw = 0;
}

-- the task of the predecessor was read in its record
abbrev pub SawBehind : Option Behind → List (Addr × ℕ) → Type 0
SawBehind None steps = Unit {0}
SawBehind (Some b) steps = Has (task_word b.unit, b.task) steps

-- The running task has a number for its next activation, and both rows of the number are written. What the activation is behind is known.
pub record HasNumber (g : Setup) (x : Running) (wanted : Option ℕ) (number : ℕ) (behind : Option Behind) (old new : View) : Type 0 where
  pub within : IsUpTo g.plan.limit number
  pub behind_is : unit_behind behind ≡ wanted
  pub knows : KnowsPredecessor g.plan behind new
  pub task_row : times number new.no_task ≡ 0
  pub after_row : times number new.no_after ≡ 0
  pub accepted : Has (IsAccepted number (Respawn x.task (task_behind behind))) new.facts
  pub steps : List (Addr × ℕ)
  pub since : new.seen ≡ steps ++ old.seen
  pub drawn : FoundDrawn number steps
  pub saw : SawBehind behind steps
  pub facts : Grows old.facts new.facts
  pub sound : SoundView g new
  pub view_is : new ≡ record (drew_next x.started.unit x.task (task_behind behind) number old) { sights = new.sights; facts = new.facts; seen = new.seen }

-- a step of the call found as many numbers drawn as there may be, or more
abbrev pub FoundLimit : ℕ → View → View → Type 0
FoundLimit limit old new = (steps : List (Addr × ℕ)) × (found : ℕ) × (new.seen ≡ steps ++ old.seen) × Has (sum 0, found) steps × (limit ≤ found)

-- The limit is met, and the task is answered so. Beside that the call may have seen the predecessor's task; nothing else has changed.
pub record MetLimitNext (g : Setup) (task : ℕ) (old new : View) : Type 0 where
  pub saw : FoundLimit g.plan.limit old new
  pub facts : Grows old.facts new.facts
  pub sights : Grows old.sights new.sights
  pub view_is : new ≡ record old {
    answers = record { asker = OfTask task; refusal = IsLimit } ∷ old.answers;
    may_draw = new.may_draw;
    sights = new.sights;
    facts = new.facts;
    seen = new.seen;
  }

-- what is told, of the view before the total was seen
abbrev pub Numbers : Setup → Running → Option ℕ → View → Option (ℕ × Option Behind) → View → Type 0
Numbers g x wanted old (Some t) new = HasNumber g x wanted t.0 t.1 old new
Numbers g x wanted old None new = MetLimitNext g x.task old new

-- whatever that was
abbrev pub NumbersNext : Setup → Running → Option ℕ → View → Option (ℕ × Option Behind) → View → Type 0
NumbersNext g x wanted v told new = (base : View) → IsInStep g x base → IsOpened g base v → Numbers g x wanted base told new
