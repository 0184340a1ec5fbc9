-- What is needed to ask for an aggregate, and what is told of it.
use Rattle.std.specs.Prelude.{◌≡◌, ℕ, ◌<◌, Option, Some, None, List, map, length, slice_get}
use Rattle.task_meaning.specs.Worths.{OfAll}
use Rattle.ready_queues.specs.declared.entry.Entry.{Entry}
use Rattle.frame_code.specs.Frames.{IsFrame}
use Rattle.frame_code.specs.Setting.{unit_in}
use Rattle.frame_code.specs.Words.{OfMembers, body_of}
use Rattle.frame_code.specs.declared.act.Act.TheVariants as act
use Rattle.frame_code.specs.declared.act.AllRequest.{AllRequest}
use Rattle.table_core.specs.Addresses.{units_of}
use Rattle.table_core.specs.Lists.{Each}
use Rattle.table_core.specs.declared.setup.Setup.{Setup}
use Rattle.table_core.specs.declared.view.View.{View}
use Rattle.schedule_rule.specs.PlacingViews.{WereSeenAs}
use Rattle.memory_pool.specs.Answers.{Gives}
use Rattle.memory_pool.specs.Searches.{SeesMore}
use Rattle.step_table.specs.Passes.{block_of}
use Rattle.step_table.specs.declared.record_tokens.Future.{Future}
use Rattle.step_table.specs.declared.tokens.Block.{Block}
use Rattle.schedule_core.specs.NewTasks.{ComesOf, GetsTask, group_class}
use Rattle.schedule_core.specs.Runs.{IsInStep}
use Rattle.schedule_core.specs.Spawning.{AsksFor}
use Rattle.schedule_core.specs.declared.answers.Spawned.{Spawned}
use Rattle.schedule_core.specs.declared.making.Behind.{Behind}
use Rattle.schedule_core.specs.declared.running.Running.{Running}

-- A running task asks for an aggregate where its frame stands. It was not answered yet.
pub record MaySpawnAll (g : Setup) (x : Running) (request : AllRequest) (v : View) : Type 0 where
  pub in_step : IsInStep g x v
  pub asks : AsksFor g.checked g.columns (act.All request) (body_of g.checked x.frame.items)
  pub unrefused : x.refused ≡ None
  pub unmade : x.made ≡ None

-- the units that the members name, in their order
abbrev pub units_all : Setup → Running → AllRequest → List (Option ℕ)
units_all g x request = map (unit_in g.checked x.frame.items) request.members

-- The members of the new aggregate are the tasks that were seen at the records of the futures, in their order, each as often as it is
-- named. It is behind the first of them, and its frame names the records of all.
pub record HasSpawnedAll (g : Setup) (x : Running) (request : AllRequest) (old : View) (future : Future) (entry : Option Entry) (new : View) : Type 0 where
  pub number : ℕ
  pub members : List ℕ
  pub were_seen : WereSeenAs new (units_all g x request) (map Some members)
  pub behind : Behind
  pub first_is : slice_get (units_all g x request) 0 ≡ Some (Some behind.unit)
  pub waits_for : slice_get members 0 ≡ Some behind.task
  pub units : List ℕ
  pub units_are : units_all g x request ≡ map Some units
  pub words : List ℕ
  pub is_frame : IsFrame g.checked words
  pub frame : body_of g.checked words ≡ OfMembers units 1
  pub gets : GetsTask g x request.to (group_class (length request.members)) request.priority number words (OfAll members) (Some behind) old future entry new

abbrev pub SpawnsAll : Setup → Running → AllRequest → View → Spawned → View → Type 0
SpawnsAll g x request old = ComesOf g x (group_class (length request.members)) (HasSpawnedAll g x request old) old

-- a block was just allocated for the aggregate, in a call that began with some view, whose references are to records of the table
pub record MaySpawnAllBlock (g : Setup) (x : Running) (request : AllRequest) (b : Block) (v : View) : Type 0 where
  pub base : View
  pub may : MaySpawnAll g x request base
  pub near : Each (λ u. u < units_of g.plan) base.futures
  pub gives : Gives g.plan (group_class (length request.members)) base (block_of b) v
  pub later : SeesMore base v

abbrev pub SpawnsAllBlock : Setup → Running → AllRequest → Block → View → Spawned → View → Type 0
SpawnsAllBlock g x request b v told after = (base : View) → MaySpawnAll g x request base → Gives g.plan (group_class (length request.members)) base (block_of b) v → SeesMore base v
    → SpawnsAll g x request base told after × IsInStep g x after
