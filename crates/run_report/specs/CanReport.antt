-- Which ended run can be reported.
use Rattle.std.specs.Prelude.{◌≡◌, ℕ, ◌<◌, ◌≤◌, Some, length}
use Rattle.task_syntax.specs.Places.{Each}
use Rattle.task_syntax.specs.declared.program.Program.{Program}
use Rattle.kt_words.specs.declared.super_word.SuperWord.{SuperWord}
use Rattle.record_core.specs.Numbers.{HasTask}
use Rattle.record_core.specs.Journal.{Leads, cause_of}
use Rattle.record_core.specs.EndSeen.{EndSeen}
use Rattle.record_core.specs.declared.rows.Cause.TheVariants.{By}
use Rattle.record_core.specs.declared.rows.RootEnd.{RootEnd}
use Rattle.record_core.specs.declared.rows.RootEnd.TheVariants.{Value, Cut}
use Rattle.record_core.specs.declared.rows.CutFrom.TheVariants.{Host, Root, Task}

-- What a root was cut from is there: a root of the program, or a task from which the causes lead to a refusal.
abbrev pub IsTold : Program → EndSeen → RootEnd → Type 0
IsTold p e (Value v) = Unit {0}
IsTold p e (Cut tag Host) = Unit {0}
IsTold p e (Cut tag (Root at)) = at < length p.roots
IsTold p e (Cut tag (Task t)) = HasTask e.rows t × Leads e.tasks tag t

-- What a task was cut by is a task.
abbrev pub AreCutByTasks : EndSeen → Type 0
AreCutByTasks e = (t u : ℕ) → cause_of e.tasks t ≡ By u → HasTask e.rows u

-- The evidence has a class, a word for each superblock, and no class past the greatest.
pub record IsShown (e : EndSeen) : Type 0 where
  pub class : ℕ
  pub class_is : e.evidence_class ≡ Some class
  pub class_fits : class ≤ 3
  pub every : length e.evidence ≡ e.superblocks
  pub classes : Each e.evidence (λ (word : SuperWord). word.class ≤ 3)

pub record CanReport (p : Program) (e : EndSeen) : Type 0 where
  pub as_many : length e.roots ≡ length p.roots
  pub beside : length e.tasks ≡ length e.rows
  pub four : length e.held ≡ 4
  pub roots : Each e.roots (IsTold p e)
  pub causes : AreCutByTasks e
  pub shown : 1 ≤ e.nulls → IsShown e
