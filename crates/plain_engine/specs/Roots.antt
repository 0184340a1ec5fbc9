-- What roots are asked for, and what is passed to them.
use Rattle.std.specs.Prelude.{◌≡◌, ℕ, ◌≤◌, Some, None, List, length, map, take, slice_get}
use Rattle.task_syntax.specs.declared.program.Program.{Program}
use Rattle.task_syntax.specs.declared.program.Root.{Root as RootLine}
use Rattle.task_syntax.specs.declared.program.RootArgument.{RootArgument}
use Rattle.task_meaning.specs.Roots.{root_call, root_number, root_future}
use Rattle.task_syntax.specs.declared.program.RootArgument.TheVariants as root_argument
use Rattle.task_syntax.specs.Places.{Each}
use Rattle.task_meaning.specs.Meant.{future_at}
use Rattle.frame_code.specs.Entries.{number_of, future_of, call_of}
use Rattle.frame_code.specs.declared.entries.Passed.{Passed}
use Rattle.record_core.specs.EndSeen.{RunPlan}
use Rattle.record_core.specs.RootEnds.{roots_named}
use Rattle.plain_state.specs.declared.record.RootState.{RootState}
use Rattle.plain_state.specs.Engine.{EngineState, with_root}
use Rattle.plain_state.specs.Laws.{MayRun, Asked, AsksRoot, first_without_task, root_units}

-- so many roots were asked for, and this is the line of the next one
pub record MayAskRoot (p : Program) (e : EngineState) (line : RootLine) : Type 0 where
  pub plan : RunPlan
  pub may : MayRun p plan
  pub asked : Asked p plan e (length e.roots)
  pub there : slice_get p.roots (length e.roots) ≡ Some line

-- each root that it names has a task
abbrev pub NamesTasks : EngineState → RootLine → Type 0
NamesTasks e line = first_without_task e.roots (roots_named line) ≡ None

-- this comes of asking for it
abbrev pub RootIs : Program → EngineState → RootLine → EngineState → RootState → Type 0
RootIs p old line new state = (plan : RunPlan) → AsksRoot p plan old line (with_root new state)

abbrev pub IsAskedFor : Program → EngineState → RootLine → EngineState → Type 0
IsAskedFor p old line new = (plan : RunPlan) → AsksRoot p plan old line new

-- what is passed for an argument
pub record IsPassedFor (states : List RootState) (argument : RootArgument) (passed : Passed) : Type 0 where
  pub number : number_of passed ≡ root_number argument
  pub future : future_of passed ≡ root_future (root_units states) argument

-- a root that an argument names has a task
abbrev pub ArgumentHasTask : List RootState → RootArgument → Type 0
ArgumentHasTask states (root_argument.Number n) = Unit {0}
ArgumentHasTask states (root_argument.Root r) = (unit : ℕ) × (future_at (root_units states) r ≡ Some unit)

abbrev pub ArgumentsHaveTasks : List RootState → RootLine → Type 0
ArgumentsHaveTasks states line = Each line.arguments (ArgumentHasTask states)

-- what was passed for the first arguments
pub record ArePassedUpTo (states : List RootState) (arguments : List RootArgument) (count : ℕ) (passed : List Passed) : Type 0 where
  pub numbers : map number_of passed ≡ map root_number (take count arguments)
  pub futures : map future_of passed ≡ map (root_future (root_units states)) (take count arguments)
  pub few : length passed ≤ count

-- all that is passed
abbrev pub IsPassedTo : List RootState → RootLine → List Passed → Type 0
IsPassedTo states line passed = call_of line.kind passed ≡ root_call (root_units states) line

-- no root was asked for
pub record MayAskAll (p : Program) (e : EngineState) : Type 0 where
  pub plan : RunPlan
  pub may : MayRun p plan
  pub asked : Asked p plan e 0
  pub none : length e.roots ≡ 0

-- all roots were asked for
abbrev pub AsksAll : Program → EngineState → EngineState → Type 0
AsksAll p old new = (plan : RunPlan) → MayRun p plan → Asked p plan old 0 → Asked p plan new (length p.roots)
