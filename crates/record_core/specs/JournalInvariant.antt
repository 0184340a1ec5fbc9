-- What the journal's code is as a state, and an invariant for its proofs alone.
use Rattle.std.specs.Prelude.{ℕ, ◌≤◌, List}
use Rattle.record_core.specs.Journal.{JournalState, IsJournal}
use Rattle.record_core.specs.declared.rows.ActivationRow.{ActivationRow}
use Rattle.record_core.specs.declared.rows.TaskRow.{TaskRow}

abbrev pub journal_of : List ActivationRow → List TaskRow → ℕ → ℕ → JournalState
journal_of rows tasks stamps limit = record { rows = rows; tasks = tasks; stamps = stamps; limit = limit }

-- there is memory for as many rows as the limit says
pub record HasRoom (j : JournalState) (rows : ℕ) : Type 0 where
  pub journal : IsJournal j
  pub few : j.limit ≤ 4000000
  pub rows_fit : j.limit ≤ rows
