-- What a run keeps of outcomes and causes: a value goes with no cause, a cut with one, and an unfinished task has none.
use Rattle.std.specs.Prelude.{◌≡◌, ℕ, true, Option, Some, None, List}
use Rattle.task_syntax.specs.declared.value.Value.{Value}
use Rattle.record_core.specs.Numbers.{found}
use Rattle.record_core.specs.Journal.{finish_of, cause_of, is_cut}
use Rattle.record_core.specs.declared.rows.TaskRow.{TaskRow}
use Rattle.record_core.specs.declared.rows.Cause.TheVariants.{Clear}
use Rattle.record_core.specs.declared.rows.CutTag.{CutTag}
use Rattle.run_model.specs.State.{Outcome, Gave, WasCut, Run}

pub record Outcomes (tasks : List TaskRow) (outcomes : List (Option Outcome)) : Type 0 where
  pub gave : (t : ℕ) (v : Value) → found outcomes t ≡ Some (Gave v) → cause_of tasks t ≡ Clear
  pub cut : (t : ℕ) (tag : CutTag) → found outcomes t ≡ Some (WasCut tag) → is_cut (cause_of tasks t) ≡ true
  pub open_ : (t : ℕ) → finish_of tasks t ≡ None → cause_of tasks t ≡ Clear

abbrev pub OutcomesStand : Run → Type 0
OutcomesStand r = Outcomes r.journal.tasks r.outcomes
