-- Which of two tasks finished first.
use Rattle.std.specs.Prelude.{◌≡◌, ℕ, ◌<◌, List, Some}
use Rattle.record_core.specs.Journal.{finish_of}
use Rattle.record_core.specs.declared.rows.TaskRow.{TaskRow}

-- both finished, and the one first
pub record FinishesBefore (tasks : List TaskRow) (one other : ℕ) : Type 0 where
  pub first : ℕ
  pub second : ℕ
  pub one_is : finish_of tasks one ≡ Some first
  pub other_is : finish_of tasks other ≡ Some second
  pub before : first < second
