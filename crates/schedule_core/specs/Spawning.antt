-- What a spawn needs and tells.
use Rattle.std.specs.Prelude.{◌≡◌, ℕ, ◌<◌, Option, Some, None, List, map}
use Rattle.task_meaning.specs.Frame.{CallOf}
use Rattle.task_meaning.specs.Worths.{OfCall}
use Rattle.ready_queues.specs.declared.entry.Entry.{Entry}
use Rattle.frame_code.specs.Entries.{future_of, number_of, Passes, IsEntryOf}
use Rattle.frame_code.specs.Frames.{IsFrame}
use Rattle.frame_code.specs.Setting.{unit_in}
use Rattle.frame_code.specs.Stops.{StopsAt}
use Rattle.frame_code.specs.Words.{BodyOf, OfKind, OfMembers, body_of}
use Rattle.frame_code.specs.declared.act.Act.{Act}
use Rattle.frame_code.specs.declared.act.Act.TheVariants as act
use Rattle.frame_code.specs.declared.act.SpawnRequest.{SpawnRequest}
use Rattle.frame_code.specs.declared.entries.Passed.{Passed}
use Rattle.task_syntax.specs.declared.columns.Columns.{Columns}
use Rattle.task_syntax.specs.declared.program.Program.{Program}
use Rattle.table_core.specs.Addresses.{units_of}
use Rattle.table_core.specs.Lists.{Each}
use Rattle.table_core.specs.declared.setup.Setup.{Setup}
use Rattle.table_core.specs.declared.view.View.{View}
use Rattle.schedule_rule.specs.PlacingViews.{WereSeenAs, WasSeenAs}
use Rattle.memory_pool.specs.Answers.{Gives}
use Rattle.memory_pool.specs.Searches.{SeesMore}
use Rattle.step_table.specs.Passes.{block_of}
use Rattle.step_table.specs.declared.record_tokens.Future.{Future}
use Rattle.step_table.specs.declared.tokens.Block.{Block}
use Rattle.schedule_core.specs.NewTasks.{ComesOf, GetsTask, kind_class}
use Rattle.schedule_core.specs.Runs.{IsInStep}
use Rattle.schedule_core.specs.SeenTasks.{unit_behind}
use Rattle.schedule_core.specs.declared.answers.Spawned.{Spawned}
use Rattle.schedule_core.specs.declared.making.Behind.{Behind}
use Rattle.schedule_core.specs.declared.running.Running.{Running}

-- the unit that a variable names, if one is given
abbrev pub named_if : Program → List ℕ → Option ℕ → Option ℕ
named_if p words None = None
named_if p words (Some x) = unit_in p words x

-- a task stands where it asks for this
abbrev pub AsksFor : Program → Columns → Act → BodyOf ℕ → Type 0
AsksFor p c asked (OfKind q) = StopsAt p c q asked
AsksFor p c asked (OfMembers units next) = ⊥

-- A running task asks for a spawn where its frame stands. It was not answered yet.
pub record MaySpawn (g : Setup) (x : Running) (request : SpawnRequest) (v : View) : Type 0 where
  pub in_step : IsInStep g x v
  pub asks : AsksFor g.checked g.columns (act.Spawn request) (body_of g.checked x.frame.items)
  pub unrefused : x.refused ≡ None
  pub unmade : x.made ≡ None

-- The call of the new task is what the request asks for, over the tasks that were seen at the records of the futures. Its frame is the first
-- one of its kind, with what is passed.
pub record HasSpawned (g : Setup) (x : Running) (request : SpawnRequest) (old : View) (future : Future) (entry : Option Entry) (new : View) : Type 0 where
  pub number : ℕ
  pub given : List Passed
  pub passes : Passes g.checked request x.frame.items given
  pub call : CallOf ℕ
  pub kind_is : call.kind ≡ request.kind
  pub numbers_are : call.numbers ≡ map number_of given
  pub futures_are : WereSeenAs new (map future_of given) call.futures
  pub waits : Option ℕ
  pub waits_for : WasSeenAs new (named_if g.checked x.frame.items request.behind) waits
  pub behind : Option Behind
  pub behind_is : unit_behind behind ≡ named_if g.checked x.frame.items request.behind
  pub words : List ℕ
  pub is_frame : IsFrame g.checked words
  pub first : IsEntryOf g.checked request.kind given words
  pub gets : GetsTask g x request.to (kind_class g.checked request.kind) request.priority number words (OfCall call waits) behind old future entry new

abbrev pub Spawns : Setup → Running → SpawnRequest → View → Spawned → View → Type 0
Spawns g x request old = ComesOf g x (kind_class g.checked request.kind) (HasSpawned g x request old) old

-- a block was just allocated for what is requested, in a call that began with some view, whose references are to records of the table
pub record MaySpawnBlock (g : Setup) (x : Running) (request : SpawnRequest) (b : Block) (v : View) : Type 0 where
  pub base : View
  pub may : MaySpawn g x request base
  pub near : Each (λ u. u < units_of g.plan) base.futures
  pub gives : Gives g.plan (kind_class g.checked request.kind) base (block_of b) v
  pub later : SeesMore base v

abbrev pub SpawnsBlock : Setup → Running → SpawnRequest → Block → View → Spawned → View → Type 0
SpawnsBlock g x request b v told after = (base : View) → MaySpawn g x request base → Gives g.plan (kind_class g.checked request.kind) base (block_of b) v → SeesMore base v
    → Spawns g x request base told after × IsInStep g x after
