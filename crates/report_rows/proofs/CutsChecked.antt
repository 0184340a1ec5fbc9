-- What the checks of causes show.
use Rattle.std.proofs.Common.{◌≡◌, ℕ, zero, suc, List, Option, Some, None, slice_get, refl, subst}
use Rattle.task_syntax.specs.Places.{Each}
use Rattle.record_core.specs.Numbers.{HasTask}
use Rattle.record_core.specs.Journal.{Leads, refused, cut_by, IsRefusal, cause_of, cause_in}
use Rattle.record_core.specs.declared.rows.ActivationRow.{ActivationRow}
use Rattle.record_core.specs.declared.rows.TaskRow.{TaskRow}
use Rattle.record_core.specs.declared.rows.Cause.{Cause}
use Rattle.record_core.specs.declared.rows.Cause.TheVariants as cause
use Rattle.record_core.specs.declared.rows.CutTag.{CutTag}
use Rattle.report_rows.specs.Cuts.{IsCutByTask}
use Rattle.report_rows.specs.Finishes.{FinishesBefore}

-- a task that was cut by one which finished first, and from which the causes lead on
pub leads_on : (tasks : List TaskRow) (tag : CutTag) (t u : ℕ) → cause_of tasks t ≡ cause.By u → FinishesBefore tasks u t → Leads tasks tag u → Leads tasks tag t
leads_on tasks tag t u by first leads = cut_by u first.second first.first by first.one_is first.other_is first.before leads

-- a task that was refused itself
pub leads_here : (tasks : List TaskRow) (tag : CutTag) (t : ℕ) (cause : Cause) → cause ≡ cause_of tasks t → IsRefusal tag cause → Leads tasks tag t
leads_here tasks tag t cause is r = refused (subst (IsRefusal tag) is r)

-- where each row names a task, if any, whatever a task was cut by is a task
pub cut_by_tasks : (rows : List ActivationRow) (tasks : List TaskRow) → Each tasks (λ (task : TaskRow). IsCutByTask rows task.cause)
    → (t u : ℕ) → cause_of tasks t ≡ cause.By u → HasTask rows u
cut_by_tasks rows tasks each zero u is = cc
cut_by_tasks rows tasks each (suc at) u is = by (slice_get tasks at) refl is where
  by : (o : Option TaskRow) → slice_get tasks at ≡ o → cause_in o ≡ cause.By u → HasTask rows u
  by None there e = cc
  by (Some task) there e = subst (IsCutByTask rows) e (each at task there)
