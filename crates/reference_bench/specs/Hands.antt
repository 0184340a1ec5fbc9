-- What the pass has whose references are cloned and dropped.
use Rattle.std.specs.Prelude.{◌≡◌, ℕ, ◌<◌, List, [], ◌∷◌, All}
use Rattle.kt_words.specs.declared.plan.Plan.{Plan}
use Rattle.table_core.specs.Addresses.{units_of}
use Rattle.table_core.specs.Holdings.{Run}
use Rattle.table_core.specs.declared.view.View.{View}
use Rattle.step_table.specs.declared.pass.Pass.{Pass}
use Rattle.step_table.specs.declared.record_tokens.Started.{Started}
use Rattle.step_table.specs.declared.shared.Shared.{Shared}
use Rattle.step_table.specs.Passes.{view, plan, IsOf}
use Rattle.step_table.specs.RecordHands.{HasFuture, RunAt}
use Rattle.table_records.specs.Makers.{IsMaker}

-- a reference to the record at each of these units
abbrev pub HasEach : Plan → List ℕ → View → Type 0
HasEach g units v = All (λ u. HasFuture g u v) units

-- the maker alone runs
abbrev pub IsAlone : Plan → Started → View → Type 0
IsAlone g maker v = (run : Run) × RunAt g maker.unit v run × (run.number ≡ maker.number) × (run.unplaced ≡ 0) × (v.runs ≡ run ∷ [])

-- the pass of the table has the maker, which runs alone, and a reference to each record
pub record IsMaking (t : Shared) (maker : Started) (units : List ℕ) (pass : Pass) : Type 0 where
  pub table : IsOf t pass
  pub makes : IsMaker t.setup maker (view pass)
  pub alone : IsAlone (plan t) maker (view pass)
  pub each : HasEach (plan t) units (view pass)

-- the pass of the table runs none, and has a reference to each record
pub record IsFilled (t : Shared) (units : List ℕ) (pass : Pass) : Type 0 where
  pub table : IsOf t pass
  pub idle : (view pass).runs ≡ []
  pub each : HasEach (plan t) units (view pass)
