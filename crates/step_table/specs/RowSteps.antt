-- What the steps need that write the two rows of a number, and what they tell.
use Rattle.std.specs.Prelude.{◌≡◌, ℕ, ◌≤◌, Option, Some}
use Rattle.record_core.specs.Counting.{times}
use Rattle.task_meaning.specs.Worths.{Accepted}
use Rattle.record_core.specs.Counting.{Has}
use Rattle.kt_words.specs.declared.plan.Plan.{Plan}
use Rattle.table_core.specs.Addresses.{journal}
use Rattle.table_core.specs.Story.{IsAccepted}
use Rattle.table_core.specs.Views.{saw}
use Rattle.table_core.specs.declared.view.View.{View}
use Rattle.schedule_rule.specs.Calls.{task_in, after_in}
use Rattle.schedule_rule.specs.DrawViews.{wrote_task, wrote_after}
use Rattle.step_table.specs.declared.pass.Pass.{Pass}
use Rattle.step_table.specs.Passes.{view}

-- the pass is to write the task of this number, whose call it knows to be of the task
pub record MayWriteTask (g : Plan) (number task : ℕ) (v : View) : Type 0 where
  pub inside : number ≤ g.limit
  pub lacks : 1 ≤ times number v.no_task
  pub call : Accepted
  pub knows : Has (IsAccepted number call) v.facts
  pub task_is : task ≡ task_in (Some call) number

-- it is to write the predecessor of this number, whose call it knows to be behind that one or none
pub record MayWriteAfter (g : Plan) (number : ℕ) (behind : Option ℕ) (v : View) : Type 0 where
  pub inside : number ≤ g.limit
  pub lacks : 1 ≤ times number v.no_after
  pub call : Accepted
  pub knows : Has (IsAccepted number call) v.facts
  pub behind_is : behind ≡ after_in (Some call)

-- the row is written
pub record WritesTask (number : ℕ) (old new : Pass) : Type 0 where
  pub found : ℕ
  pub view_is : view new ≡ saw (journal number 0) found (wrote_task number (view old))

pub record WritesAfter (number : ℕ) (old new : Pass) : Type 0 where
  pub found : ℕ
  pub view_is : view new ≡ saw (journal number 1) found (wrote_after number (view old))
