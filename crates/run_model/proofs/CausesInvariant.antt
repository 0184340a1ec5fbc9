-- What a run keeps of cuts: the causes of a cut task lead to a refusal of its kind, and whoever started behind a cut task
-- was cut by it.
use Rattle.std.specs.Prelude.{◌≡◌, ℕ, true, Option, Some, IsSome, List, length, slice_get}
use Rattle.record_core.specs.Numbers.{by_number, found}
use Rattle.record_core.specs.Journal.{JournalState, Leads, IsLastBehind, cause_of, is_cut}
use Rattle.record_core.specs.declared.rows.ActivationRow.{ActivationRow}
use Rattle.record_core.specs.declared.rows.Cause.TheVariants as cause
use Rattle.record_core.specs.declared.rows.CutTag.{CutTag}
use Rattle.record_core.specs.declared.rows.CutTag.TheVariants.{Limit}
use Rattle.run_model.specs.State.{Outcome, WasCut, RootWord, Refused, Run}

pub record Causes (j : JournalState) (outcomes : List (Option Outcome)) (roots : List RootWord) : Type 0 where
  pub leads : (t : ℕ) (tag : CutTag) → found outcomes t ≡ Some (WasCut tag) → Leads j.tasks tag t
  pub by : (t u : ℕ) → cause_of j.tasks t ≡ cause.By u → IsLastBehind j.rows t u
  pub through : (n u : ℕ) (row : ActivationRow) → by_number j.rows n ≡ Some row → IsSome row.start → row.after ≡ Some u → is_cut (cause_of j.tasks u) ≡ true
      → cause_of j.tasks row.task ≡ cause.By u
  pub limited : (t : ℕ) → cause_of j.tasks t ≡ cause.Limit → length j.rows ≡ j.limit
  pub limited_root : (at : ℕ) → slice_get roots at ≡ Some (Refused Limit) → length j.rows ≡ j.limit

abbrev pub CausesStand : Run → Type 0
CausesStand r = Causes r.journal r.outcomes r.roots
