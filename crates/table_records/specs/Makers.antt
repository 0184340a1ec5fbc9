-- The run by whose acts records are made.
use Rattle.std.specs.Prelude.{◌≡◌, ℕ, false, Option, Some, None, List, [], slice_index}
use Rattle.frame_code.specs.Control.{is_aggregate}
use Rattle.frame_code.specs.Ways.{HasWay}
use Rattle.frame_code.specs.Words.{frame_at}
use Rattle.table_core.specs.Holdings.{Run}
use Rattle.table_core.specs.declared.setup.Setup.{Setup}
use Rattle.table_core.specs.declared.view.View.{View}
use Rattle.schedule_rule.specs.Frames.{IsFormed}
use Rattle.step_table.specs.declared.record_tokens.Started.{Started}
use Rattle.step_table.specs.Lookups.{run_in}
use Rattle.step_table.specs.PlacingSteps.{Placement, ForRun}
use Rattle.step_table.specs.RecordHands.{RunAt}
use Rattle.table_records.specs.Plain.{IsPlain, call_behind, plain_words}

-- The pass runs the first activation of a task, which may make others: no number that it asked for is to be placed, and its frame
-- stands where there is a way.
pub record IsMaker (g : Setup) (maker : Started) (v : View) : Type 0 where
  pub plain : IsPlain g.checked
  pub run : Run
  pub at : RunAt g.plan maker.unit v run
  pub task_is : run.task ≡ maker.number
  pub idle : run.unplaced ≡ 0
  pub single : is_aggregate (slice_index run.words 0) ≡ false
  pub way : HasWay g.checked (frame_at g.checked (slice_index run.words))
  pub formed : IsFormed g.checked (slice_index run.words)

-- the words of a run, where there is one
abbrev pub words_of : Option Run → List ℕ
words_of None = []
words_of (Some run) = run.words

-- what is placed of a record by an act of the run at this unit, whose frame stays where it stands
abbrev pub placement_by : ℕ → Option ℕ → View → Placement
placement_by by behind v = record { call = call_behind behind; words = plain_words; asked = ForRun by (words_of (run_in by v.runs)) }
