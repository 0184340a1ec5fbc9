-- What a run keeps of calls: the row of a number is as its call says, and a call names earlier tasks.
use Rattle.std.specs.Prelude.{◌≡◌, ℕ, ◌<◌, Some, List}
use Rattle.task_meaning.specs.Worths.{Accepted}
use Rattle.record_core.specs.Numbers.{by_number, HasTask}
use Rattle.record_core.specs.EndAsks.{CallNames}
use Rattle.record_core.specs.EndCalls.{IsRowOf}
use Rattle.record_core.specs.declared.rows.ActivationRow.{ActivationRow}
use Rattle.run_model.specs.State.{Run}

pub record Calls (rows : List ActivationRow) (calls : List Accepted) : Type 0 where
  pub row_of : (n : ℕ) (call : Accepted) (row : ActivationRow) → by_number calls n ≡ Some call → by_number rows n ≡ Some row → IsRowOf n call row
  pub earlier : (n u : ℕ) (call : Accepted) → by_number calls n ≡ Some call → CallNames call u → (u < n) × HasTask rows u

abbrev pub CallsStand : Run → Type 0
CallsStand r = Calls r.journal.rows r.calls
