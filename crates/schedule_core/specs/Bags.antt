-- The references that a running record has, beside what the other running records of its hand need.
use Rattle.std.specs.Prelude.{ℕ, ◌≤◌, List}
use Rattle.record_core.specs.Counting.{times, dropped}
use Rattle.task_syntax.specs.declared.program.Program.{Program}
use Rattle.table_core.specs.WaitViews.{is_run_at}
use Rattle.table_core.specs.declared.view.View.{View}
use Rattle.schedule_rule.specs.Frames.{Bagged, BagSound}
use Rattle.schedule_rule.specs.PlacingViews.{less}

-- the references of the hand without these, and its runs without the one at the unit
abbrev pub bag_without : ℕ → List ℕ → View → Bagged
bag_without unit units v = record { futures = less v.futures units; runs = dropped (is_run_at unit) v.runs }

-- the hand has a reference for each of these units, and without them it has enough for the runs beside the one at the unit
pub record IsSpare (p : Program) (unit : ℕ) (units : List ℕ) (v : View) : Type 0 where
  pub there : (w : ℕ) → times w units ≤ times w v.futures
  pub bag : BagSound p (bag_without unit units v)
