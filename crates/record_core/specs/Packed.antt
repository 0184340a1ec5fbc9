-- What is known of a number in 32-bit words: its activation, and the task that begins with it.
use Rattle.std.specs.Prelude.{ℕ, zero, suc, ◌+◌, ◌<◌, ◌^◌, Option, Some, None, List, map}
use Rattle.record_core.specs.declared.rows.ActivationRow.{ActivationRow}
use Rattle.record_core.specs.declared.rows.TaskRow.{TaskRow}
use Rattle.record_core.specs.declared.rows.Cause.{Cause}
use Rattle.record_core.specs.declared.rows.Cause.TheVariants.{Clear, Null, Limit, By}
use Rattle.record_core.specs.Journal.{JournalState}
use Rattle.record_core.specs.JournalInvariant.{journal_of}

-- an activation and a task of the same number
pub record NumberRow : Type 0 where
  pub activation : ActivationRow
  pub task : TaskRow

-- a number from 1 on, or none, which is 0
abbrev pub number_told : ℕ → Option ℕ
number_told zero = None
number_told (suc n) = Some (suc n)

-- a task by which another was cut is kept as 3 more
abbrev pub cause_told : ℕ → Cause
cause_told zero = Clear
cause_told (suc zero) = Null
cause_told (suc (suc zero)) = Limit
cause_told (suc (suc (suc task))) = By task

-- it can be kept so
abbrev pub FitsCause : Cause → Type 0
FitsCause (By task) = task + 3 < 2 ^ 32
FitsCause _ = Unit {0}

abbrev pub activations_in : List NumberRow → List ActivationRow
activations_in rows = map (λ (row : NumberRow). row.activation) rows

abbrev pub tasks_in : List NumberRow → List TaskRow
tasks_in rows = map (λ (row : NumberRow). row.task) rows

-- the journal with these rows
abbrev pub journal_in : List NumberRow → ℕ → ℕ → JournalState
journal_in rows stamps limit = journal_of (activations_in rows) (tasks_in rows) stamps limit
