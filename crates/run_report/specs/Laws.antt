-- Laws of reports.
use Rattle.std.specs.Prelude.{◌≡◌, ℕ, List, [], ◌∷◌, length, Some, slice_get}
use Rattle.task_syntax.specs.declared.columns.Columns.{Columns}
use Rattle.task_syntax.specs.declared.program.Program.{Program}
use Rattle.record_core.specs.Journal.{IsRefusal, cause_of}
use Rattle.record_core.specs.EndSeen.{EndSeen, RunPlan}
use Rattle.record_core.specs.EndSound.{EndSound}
use Rattle.record_core.specs.declared.rows.TaskRow.{TaskRow}
use Rattle.record_core.specs.declared.rows.Cause.TheVariants.{By}
use Rattle.record_core.specs.declared.rows.CutFrom.TheVariants.{Task}
use Rattle.record_core.specs.declared.rows.CutTag.{CutTag}
use Rattle.record_core.specs.declared.rows.RootEnd.TheVariants.{Cut}
use Rattle.run_report.specs.CanReport.{CanReport}
use Rattle.run_report.specs.Report.{cause_path}

-- The tasks begin with t, each was cut by the next, and the last one was refused itself, with this result.
pub data IsCausePath (tasks : List TaskRow) (tag : CutTag) : ℕ → List ℕ → Type 0 where
  ends : {t : ℕ} → IsRefusal tag (cause_of tasks t) → IsCausePath tasks tag t (t ∷ [])
  goes_on : {t : ℕ} (u : ℕ) (path : List ℕ) → cause_of tasks t ≡ By u → IsCausePath tasks tag u path → IsCausePath tasks tag t (t ∷ path)

-- The tasks that a report names after a cut root are the whole path to the refusal: finishes fall along causes, so no
-- task comes twice, and the bound on their number never cuts the path short.
abbrev pub PathsAreWhole : Type 0
PathsAreWhole = (p : Program) (e : EndSeen) → CanReport p e → (at t : ℕ) (tag : CutTag)
    → slice_get e.roots at ≡ Some (Cut tag (Task t)) → IsCausePath e.tasks tag t (cause_path (length e.rows) e.tasks t)

-- Each sound end can be reported.
abbrev pub SoundEndsCanBeReported : Type 0
SoundEndsCanBeReported = (p : Program) (c : Columns) (plan : RunPlan) (e : EndSeen) → EndSound p c plan e → CanReport p e
