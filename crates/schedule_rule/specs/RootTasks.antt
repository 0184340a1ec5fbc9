-- The tasks of the roots.
use Rattle.std.specs.Prelude.{◌≡◌, ◌≢◌, ℕ, ◌+◌, ◌<◌, ◌≤◌, List, length, nat_lt, Option, Some}
use Rattle.record_core.specs.Counting.{one_if}
use Rattle.kt_words.specs.declared.plan.Plan.{Plan}
use Rattle.task_syntax.specs.declared.program.Program.{Program}
use Rattle.task_meaning.specs.Meant.{future_at}
use Rattle.task_meaning.specs.RootLaws.{AreRootTasks}
use Rattle.task_meaning.specs.Worths.{Accepted}
use Rattle.table_core.specs.Addresses.{units_of}
use Rattle.table_core.specs.Holdings.{RootSays}
use Rattle.table_core.specs.Lists.{Each}

-- what a pass has of the turn, and the number that was drawn for the root of the turn, 0 for none
pub record RootTask : Type 0 where
  pub turn : List (List RootSays)
  pub root_task : ℕ

-- The roots' tasks were accepted as the roots' calls, one after the other, so that no two roots have one.
pub record RootTasksSound (p : Program) (g : Plan) (calls : List Accepted) (tasks roots : ℕ → ℕ) (vs : List RootTask) : Type 0 where
  pub own : List (Option ℕ)
  pub are : AreRootTasks p calls own
  pub rise : (r s t u : ℕ) → r < s → future_at own r ≡ Some t → future_at own s ≡ Some u → t < u
  -- the roots that were asked for have theirs, and that of the turn where its number is drawn
  pub few : Each (λ v. Each (λ asked. length own ≤ length asked + one_if (nat_lt 0 v.root_task)) v.turn) vs
  -- the record that a root word names is that of the root's task
  pub named : (r u : ℕ) → r < 16 → u < units_of g → roots r ≡ u + 1 → future_at own r ≡ Some (tasks u)
  pub drawn : Each (λ v. Each (λ asked. v.root_task ≢ 0 → future_at own (length asked) ≡ Some v.root_task) v.turn) vs
  pub of_turn : Each (λ v. v.root_task ≢ 0 → length v.turn ≡ 1) vs
