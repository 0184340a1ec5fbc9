-- What a run of a valid program keeps of values: a value that a task gave is its worth, and so is one that follows from the
-- frame of a task under way, where the task that it waits for has a worth.
use Rattle.std.specs.Prelude.{◌≡◌, ℕ, Some}
use Rattle.task_syntax.specs.declared.value.Value.{Value}
use Rattle.task_syntax.specs.declared.program.Program.{Program}
use Rattle.task_syntax.specs.declared.columns.Columns.{Columns}
use Rattle.task_meaning.specs.Frame.{FrameOf}
use Rattle.task_meaning.specs.FrameLaws.{WorthGives, RestGives, HasWorth}
use Rattle.frame_code.specs.Words.{OfKind}
use Rattle.record_core.specs.Numbers.{found}
use Rattle.record_core.specs.declared.rows.ActivationRow.{ActivationRow}
use Rattle.run_model.specs.State.{Gave, Run}
use Rattle.run_model.proofs.NumbersInvariant.{IsLive}

pub record ValuesStand (p : Program) (c : Columns) (r : Run) : Type 0 where
  pub complete : (t : ℕ) (v : Value) → found r.outcomes t ≡ Some (Gave v) → WorthGives p c r.calls t v
  pub under_way : (t n : ℕ) (row : ActivationRow) (q : FrameOf ℕ) (v : Value) → IsLive r t n row → found r.bodies t ≡ Some (OfKind q)
      → HasWorth p c r.calls row.after → RestGives p c r.calls row.after q v → WorthGives p c r.calls t v
