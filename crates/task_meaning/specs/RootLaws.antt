-- The roots of a program as accepted tasks.
use Rattle.std.specs.Prelude.{◌≡◌, ℕ, suc, Option, Some, None, List, slice_get, IfSome}
use Rattle.task_syntax.specs.Places.{Each}
use Rattle.task_syntax.specs.Form.{IsWellFormed}
use Rattle.task_syntax.specs.declared.program.RootArgument.{RootArgument}
use Rattle.task_syntax.specs.declared.program.RootArgument.TheVariants as root_argument
use Rattle.task_syntax.specs.declared.program.Root.{Root as RootLine}
use Rattle.task_syntax.specs.declared.program.Program.{Program}
use Rattle.task_syntax.specs.declared.columns.Columns.{Columns}
use Rattle.task_meaning.specs.Meant.{future_at}
use Rattle.task_meaning.specs.Roots.{root_call, root_value}
use Rattle.task_meaning.specs.Worths.{Accepted, OfCall, worths}
use Rattle.task_meaning.specs.WorthLaws.{NamesUpTo}

-- the task of the root that is waited for, if any is
abbrev pub root_waits : List (Option ℕ) → Option ℕ → Option ℕ
root_waits own None = None
root_waits own (Some r) = future_at own r

-- the root is one that has a task
abbrev pub HasTask : List (Option ℕ) → ℕ → Type 0
HasTask own r = (t : ℕ) × (future_at own r ≡ Some t)

abbrev pub NamesTasks : List (Option ℕ) → RootArgument → Type 0
NamesTasks own (root_argument.Number n) = Unit {0}
NamesTasks own (root_argument.Root r) = HasTask own r

-- a root with a task was accepted as its call: the roots that it names have earlier tasks
pub record IsRootTask (accepted : List Accepted) (own : List (Option ℕ)) (root : RootLine) (t : ℕ) : Type 0 where
  pub before : ℕ
  pub follows : t ≡ suc before
  pub accepted_as : slice_get accepted before ≡ Some (OfCall (root_call own root) (root_waits own root.behind))
  pub arguments : Each root.arguments (NamesTasks own)
  pub waits : IfSome root.behind (HasTask own)
  pub earlier : Each (root_call own root).futures (NamesUpTo before)
  pub earlier_waits : NamesUpTo before (root_waits own root.behind)

-- these are the tasks of the roots, for each root one or none
abbrev pub AreRootTasks : Program → List Accepted → List (Option ℕ) → Type 0
AreRootTasks p accepted own = (at : ℕ) (root : RootLine) (t : ℕ) → slice_get p.roots at ≡ Some root → future_at own at ≡ Some t → IsRootTask accepted own root t

-- the worth of a root's task is the root's value, at each fuel
abbrev pub RootTasksAreWorthTheirValue : Type 0
RootTasksAreWorthTheirValue = (p : Program) (c : Columns) (n : ℕ) (accepted : List Accepted) (own : List (Option ℕ)) (at : ℕ) (root : RootLine) (t : ℕ)
    → IsWellFormed p → AreRootTasks p accepted own → slice_get p.roots at ≡ Some root → future_at own at ≡ Some t
    → future_at (worths p c n accepted) t ≡ root_value p c n at
