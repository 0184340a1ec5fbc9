-- What is needed to place a running task's next activation with its frame, and what that leaves.
use Rattle.std.specs.Prelude.{◌≡◌, ℕ, ◌*◌, ◌≤◌, Option, List, ◌∷◌, ◌++◌, length, slice_index}
use Rattle.record_core.specs.Counting.{Has, times, dropped}
use Rattle.kt_words.specs.Capacity.{block_units}
use Rattle.task_syntax.specs.declared.value.Priority.{Priority}
use Rattle.task_meaning.specs.Worths.{Respawn}
use Rattle.ready_queues.specs.declared.entry.Entry.{Entry}
use Rattle.frame_code.specs.Frames.{IsFrame}
use Rattle.frame_code.specs.Units.{named_in}
use Rattle.frame_code.specs.Words.{body_at, body_of}
use Rattle.table_core.specs.Addresses.{Addr}
use Rattle.table_core.specs.Asking.{OfTask}
use Rattle.table_core.specs.Holdings.{Run, Placing}
use Rattle.table_core.specs.Story.{IsAccepted}
use Rattle.table_core.specs.WaitViews.{is_run_at}
use Rattle.table_core.specs.declared.setup.Setup.{Setup}
use Rattle.table_core.specs.declared.view.View.{View}
use Rattle.schedule_rule.specs.DrawViews.{drawn_for}
use Rattle.schedule_rule.specs.Frames.{HoldsNames}
use Rattle.schedule_rule.specs.LifeViews.{answers_left}
use Rattle.schedule_rule.specs.PlacingViews.{less, is_drawn, IsNextFrame}
use Rattle.step_table.specs.PlacingSteps.{placing_of}
use Rattle.step_table.specs.RecordHands.{RunAt}
use Rattle.schedule_core.specs.Bags.{IsSpare}
use Rattle.schedule_core.specs.Making.{Enters, KnowsPredecessor, task_behind, waits_behind}
use Rattle.schedule_core.specs.References.{Grows}
use Rattle.schedule_core.specs.declared.making.Behind.{Behind}

-- The run at the unit drew the number for its next activation, which is behind this task or none, and has no other to place. The words
-- are the frame of that activation, which fits into the record and names a unit for each future that is held there; the pass has a
-- reference for each unit that they name, beside what its other runs need.
pub record MayPlaceFrame (g : Setup) (unit number : ℕ) (after : Option ℕ) (words : List ℕ) (v : View) : Type 0 where
  pub run : Run
  pub at : RunAt g.plan unit v run
  pub last : run.unplaced ≡ 1
  pub within : number ≤ g.plan.limit
  pub drawn : Has (drawn_for number unit (OfTask run.task)) v.drawn
  pub task_row : times number v.no_task ≡ 0
  pub after_row : times number v.no_after ≡ 0
  pub accepted : Has (IsAccepted number (Respawn run.task after)) v.facts
  pub frame : IsFrame g.checked words
  pub fits : length words ≤ 8 * block_units run.class
  pub next : IsNextFrame g.checked (body_at g.checked (slice_index run.words)) (body_of g.checked words)
  pub names : HoldsNames g.checked (body_of g.checked words)
  pub spare : IsSpare g.checked unit (named_in g.checked words) v

-- and the predecessor is known
pub record MayPlaceBehind (g : Setup) (unit number : ℕ) (behind : Option Behind) (words : List ℕ) (v : View) : Type 0 where
  pub may : MayPlaceFrame g unit number (task_behind behind) words v
  pub predecessor : KnowsPredecessor g.plan behind v

-- The number is placed in this way, and the run is in the hand no more. The record has the references of its frame, and what was answered
-- to its task is of no use any more.
abbrev pub IsPlacedAgain : Setup → ℕ → ℕ → List ℕ → Placing → View → View → Type 0
IsPlacedAgain g unit number words placing old new = (run : Run) → RunAt g.plan unit old run → new ≡ record old {
  runs = dropped (is_run_at unit) old.runs;
  known = new.known;
  futures = less old.futures (named_in g.checked words);
  sights = new.sights;
  drawn = dropped (is_drawn number) old.drawn;
  placings = placing ∷ old.placings;
  answers = answers_left run.task old.answers;
  facts = new.facts;
  settles = new.settles;
  tries = new.tries;
  seen = new.seen;
}

-- with this priority and frame; besides, what is told of its entry, among the steps of the call
pub record PlacesAgain (g : Setup) (unit number : ℕ) (priority : Priority) (behind : Option Behind) (words : List ℕ) (old : View) (told : Option Entry) (new : View) : Type 0 where
  pub steps : List (Addr × ℕ)
  pub since : new.seen ≡ steps ++ old.seen
  pub enters : Enters unit number priority behind told steps
  pub facts : Grows old.facts new.facts
  pub settles : Grows old.settles new.settles
  pub view_is : IsPlacedAgain g unit number words (placing_of (waits_behind behind) unit number priority words) old new
