-- The records of the roots that a line names: which root has none, and what is left where references to them are taken.
use Rattle.std.specs.Prelude.{◌≡◌, ℕ, ◌<◌, Option, Some, None, List, [], ◌∷◌, ◌++◌, map}
use Rattle.std.specs.Option.{option_to_list}
use Rattle.record_core.specs.Counting.{At, Has, times}
use Rattle.task_syntax.specs.declared.program.RootArgument.{RootArgument}
use Rattle.kt_words.specs.declared.plan.Plan.{Plan}
use Rattle.frame_code.specs.Entries.{future_of}
use Rattle.frame_code.specs.Names.{present}
use Rattle.frame_code.specs.declared.entries.Passed.{Passed}
use Rattle.table_core.specs.Addresses.{Addr, units_of, task}
use Rattle.table_core.specs.Holdings.{RootSays, Record, Sight, SawTask}
use Rattle.table_core.specs.Lists.{Each}
use Rattle.table_core.specs.Roots.{HasRecord}
use Rattle.table_core.specs.declared.view.View.{View}
use Rattle.step_table.specs.RootSteps.{HasRootRecord}
use Rattle.schedule_core.specs.References.{Grows}
use Rattle.schedule_core.specs.SeenTasks.{task_seen, unit_behind}
use Rattle.schedule_core.specs.Hosting.{IsBehindRoot, IsPassedAs, ArePassedAs}
use Rattle.schedule_core.specs.declared.making.Behind.{Behind}

abbrev pub HasTurn : View → Type 0
HasTurn v = (asked : List RootSays) × (v.turn ≡ asked ∷ [])

-- the numbers of roots
abbrev pub AreRoots : List ℕ → Type 0
AreRoots names = Each (λ r. r < 16) names

-- of these roots, the first without a record, or each has one
abbrev pub FirstWithout : List RootSays → List ℕ → Option ℕ → Type 0
FirstWithout asked names (Some j) = (k : ℕ) × At names k j × (¬ HasRecord asked j) × ((i r : ℕ) → i < k → At names i r → HasRecord asked r)
FirstWithout asked names None = Each (HasRecord asked) names

-- by the turn that the view has
abbrev pub TellsMissing : View → List ℕ → Option ℕ → Type 0
TellsMissing v names told = (asked : List RootSays) → v.turn ≡ asked ∷ [] → FirstWithout asked names told

-- the pass has the turn, and each of these roots has a record of the table
abbrev pub HaveRootRecords : Plan → List ℕ → View → Type 0
HaveRootRecords g names v = Each (λ r. (r < 16) × HasRootRecord g r v) names

-- The pass has one reference more for each of these units. The task of each was seen, and each task that was seen was read in a step;
-- nothing else has changed.
pub record TakesUnits (g : Plan) (units : List ℕ) (old new : View) : Type 0 where
  pub near : Each (λ u. u < units_of g) units
  pub front : List ℕ
  pub counts : (w : ℕ) → times w front ≡ times w units
  pub steps : List (Addr × ℕ)
  pub since : new.seen ≡ steps ++ old.seen
  pub more : List Sight
  pub sights : new.sights ≡ more ++ old.sights
  pub read : (u t : ℕ) → Has (SawTask u t) more → Has (task u, t) steps
  pub saw : Each (λ u. (t : ℕ) × (task_seen u more ≡ Some t)) units
  pub facts : Grows old.facts new.facts
  pub view_is : new ≡ record old { futures = front ++ old.futures; sights = new.sights; facts = new.facts; seen = new.seen }

-- a reference to the record of root r, whose task was seen there last
pub record TakesRoot (g : Plan) (r : ℕ) (b : Behind) (old new : View) : Type 0 where
  pub is_its : (asked : List RootSays) → old.turn ≡ asked ∷ [] → At asked r (Record b.unit)
  pub takes : TakesUnits g (b.unit ∷ []) old new
  pub task_is : task_seen b.unit new.sights ≡ Some b.task

-- the records of the roots that an argument names are passed, with a reference to each
pub record PassesRoot (g : Plan) (argument : RootArgument) (given : Passed) (old new : View) : Type 0 where
  pub is : (asked : List RootSays) → old.turn ≡ asked ∷ [] → IsPassedAs asked argument given
  pub takes : TakesUnits g (option_to_list (future_of given)) old new

pub record PassesRoots (g : Plan) (arguments : List RootArgument) (given : List Passed) (old new : View) : Type 0 where
  pub are : (asked : List RootSays) → old.turn ≡ asked ∷ [] → ArePassedAs asked arguments given
  pub takes : TakesUnits g (present (map future_of given)) old new

-- a reference to the record of the root that a line is behind, if it is behind one, whose task was seen there last
abbrev pub SawLast : Option Behind → View → Type 0
SawLast None v = Unit {0}
SawLast (Some b) v = task_seen b.unit v.sights ≡ Some b.task

pub record TakesBehind (g : Plan) (root : Option ℕ) (behind : Option Behind) (old new : View) : Type 0 where
  pub is : (asked : List RootSays) → old.turn ≡ asked ∷ [] → IsBehindRoot asked root behind
  pub takes : TakesUnits g (option_to_list (unit_behind behind)) old new
  pub task_is : SawLast behind new
