-- The worked runs, computed.
use Rattle.std.proofs.Common.{◌≡◌, ℕ, List, Option, None, refl, ap}
use Rattle.task_syntax.specs.declared.program.Program.{Program}
use Rattle.task_syntax.specs.declared.columns.Columns.{Columns}
use Rattle.record_core.specs.EndSeen.{RunPlan}
use Rattle.record_core.specs.declared.rows.ActivationRow.{ActivationRow}
use Rattle.record_core.specs.declared.rows.TaskRow.{TaskRow}
use Rattle.run_model.specs.State.{Run, Queues, next_queued}
use Rattle.run_model.specs.Step.{steps, asked}
use Rattle.run_model.specs.End.{end_seen}
use Rattle.run_model.specs.WorkedRuns.{Summary, summary_of, EndsSo, IsTracedSo, plan}

-- what is looked at in a state: whether it is over, and what is told of it
pub record Look : Type 0 where
  pub running : Option ℕ
  pub next : Option (ℕ × Queues)
  pub told : Summary
  pub rows : List ActivationRow
  pub tasks : List TaskRow

abbrev pub look : RunPlan → Run → Look
look plan r = record { running = r.running; next = next_queued r.ready; told = summary_of (end_seen plan r); rows = r.journal.rows; tasks = r.journal.tasks }

abbrev pub over : Summary → List ActivationRow → List TaskRow → Look
over told rows tasks = record { running = None; next = None; told = told; rows = rows; tasks = tasks }

-- a run that looks so after some steps is over so
pub traced : (p : Program) (c : Columns) (plan : RunPlan) (taken : ℕ) (told : Summary) (rows : List ActivationRow) (tasks : List TaskRow)
    → look plan (steps p c plan.units taken (asked p plan)) ≡ over told rows tasks → IsTracedSo p c plan told rows tasks
traced p c plan taken told rows tasks e =
    let end = steps p c plan.units taken (asked p plan) in (
      end_seen plan end,
      (end, record { taken = taken; reached = refl; idle = ap (λ (l : Look). l.running) e; quiet = ap (λ (l : Look). l.next) e }, refl),
      ap (λ (l : Look). l.told) e,
      ap (λ (l : Look). l.rows) e,
      ap (λ (l : Look). l.tasks) e,
    )

-- the same, where only the summary is told
pub record ShortLook : Type 0 where
  pub running : Option ℕ
  pub next : Option (ℕ × Queues)
  pub told : Summary

abbrev pub short_look : RunPlan → Run → ShortLook
short_look plan r = record { running = r.running; next = next_queued r.ready; told = summary_of (end_seen plan r) }

pub told : (p : Program) (c : Columns) (plan : RunPlan) (taken : ℕ) (told : Summary)
    → short_look plan (steps p c plan.units taken (asked p plan)) ≡ record { running = None; next = None; told = told } → EndsSo p c plan told
told p c plan taken so e =
    let end = steps p c plan.units taken (asked p plan) in (
      end_seen plan end,
      (end, record { taken = taken; reached = refl; idle = ap (λ (l : ShortLook). l.running) e; quiet = ap (λ (l : ShortLook). l.next) e }, refl),
      ap (λ (l : ShortLook). l.told) e,
    )
