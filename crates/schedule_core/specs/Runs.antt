-- A running record of a pass, and the frame of its task as far as the task has come.
use Rattle.std.specs.Prelude.{◌≡◌, ℕ, false, slice_index}
use Rattle.frame_code.specs.Frames.{IsFrame}
use Rattle.frame_code.specs.Units.{named_in}
use Rattle.frame_code.specs.Ways.{BodyHasWay}
use Rattle.frame_code.specs.Words.{BodyOf, OfKind, OfMembers, body_at, body_of}
use Rattle.table_core.specs.Holdings.{Run}
use Rattle.table_core.specs.declared.setup.Setup.{Setup}
use Rattle.table_core.specs.declared.view.View.{View}
use Rattle.step_table.specs.RecordHands.{RunAt}
use Rattle.schedule_rule.specs.Frames.{HoldsNames}
use Rattle.schedule_rule.specs.Numbers.{in_hand}
use Rattle.schedule_rule.specs.Parts.{places, seen}
use Rattle.schedule_core.specs.Bags.{IsSpare}
use Rattle.schedule_core.specs.declared.running.Running.{Running}

-- the frame is a task's, and no aggregate's
abbrev pub IsTask : BodyOf ℕ → Type 0
IsTask (OfKind q) = Unit {0}
IsTask (OfMembers units next) = ⊥

-- the second frame stands in the same state of the same kind; an aggregate's is the same
abbrev pub IsSameState : BodyOf ℕ → BodyOf ℕ → Type 0
IsSameState (OfKind q) (OfKind now) = (now.kind ≡ q.kind) × (now.state ≡ q.state)
IsSameState (OfMembers units next) (OfMembers same at) = (same ≡ units) × (at ≡ next)
IsSameState (OfKind q) (OfMembers same at) = ⊥
IsSameState (OfMembers units next) (OfKind now) = ⊥

-- The value is a run of the pass that has asked for no number that is not placed. Its frame stands where a way arrives, in the state
-- of the frame that the pass has of it. Each future that is held there names a record, and the pass has a reference for each future
-- that the frame names, beside what its other runs need.
pub record IsInStep (g : Setup) (x : Running) (v : View) : Type 0 where
  pub run : Run
  pub at : RunAt g.plan x.started.unit v run
  pub number_is : run.number ≡ x.started.number
  pub task_is : run.task ≡ x.task
  pub placed : run.unplaced ≡ 0
  pub unasked : run.asked ≡ false
  pub frame : IsFrame g.checked x.frame.items
  pub way : BodyHasWay g.checked (body_of g.checked x.frame.items)
  pub names : HoldsNames g.checked (body_of g.checked x.frame.items)
  pub same : IsSameState (body_at g.checked (slice_index run.words)) (body_of g.checked x.frame.items)
  pub spare : IsSpare g.checked x.started.unit (named_in g.checked x.frame.items) v

-- the pass has drawn no such number that is not placed, and taken none
abbrev pub HasNoNumber : ℕ → View → Type 0
HasNoNumber number v = in_hand number (seen places v) ≡ 0
