-- What an engine does with its state at each move of a run, and what has to hold where it does.
use Rattle.std.specs.Prelude.{◌≡◌, ℕ, ◌<◌, ◌^◌, Option, Some, None, List, length, slice_get, IfSome}
use Rattle.task_syntax.specs.declared.value.Priority.{Priority}
use Rattle.pool_core.specs.Blocks.{BlockState}
use Rattle.pool_core.specs.Pool.{PoolState}
use Rattle.record_core.specs.Numbers.{HasTask}
use Rattle.record_core.specs.Journal.{next_number, with_accepted, with_begun, with_finished, IsUnderWay, MayCause}
use Rattle.record_core.specs.declared.rows.Cause.{Cause}
use Rattle.record_core.specs.declared.rows.CutTag.{CutTag}
use Rattle.run_model.specs.State.{Queues}
use Rattle.plain_state.specs.declared.record.Outcome.{Outcome}
use Rattle.plain_state.specs.declared.record.Record.{Record}
use Rattle.plain_state.specs.declared.record.Behind.{Behind}
use Rattle.plain_state.specs.Store.{StoreState, cut_of, held_all, let_go, let_go_all, made, stored, linked, queued_at, renewed, completed, HasUnit, HasPlaces, MayHoldAll, MayLetGo, MayLetGoAll, MayComplete, FitsAt}
use Rattle.plain_state.specs.Engine.{EngineState, with_store}

-- what an activation is behind

abbrev pub behind_none : Behind
behind_none = record { task = None; waits = None; cut = None }

abbrev pub behind_ended : ℕ → ℕ → Option Outcome → Behind
behind_ended task unit None = record { task = Some task; waits = Some unit; cut = None }
behind_ended task unit (Some outcome) = record { task = Some task; waits = None; cut = cut_of outcome }

abbrev pub behind_record : ℕ → Option Record → Behind
behind_record unit None = behind_none
behind_record unit (Some k) = behind_ended k.task unit k.outcome

-- behind the task in the block at this unit, if one is given
abbrev pub behind_at : StoreState → Option ℕ → Behind
behind_at s None = behind_none
behind_at s (Some unit) = behind_record unit (slice_get s.records unit)

-- it waits for what it is behind, or may start
abbrev pub arrived : ℕ → Option ℕ → StoreState → StoreState
arrived unit None s = queued_at unit s
arrived unit (Some target) s = linked unit target s

abbrev pub MayArrive : ℕ → Option ℕ → StoreState → Type 0
MayArrive unit None s = HasUnit s unit × HasPlaces s 1
MayArrive unit (Some target) s = HasUnit s unit × HasUnit s target

-- a variable gives up what it named, if it named a task
abbrev pub let_go_if : Option ℕ → StoreState → StoreState
let_go_if None s = s
let_go_if (Some unit) s = let_go unit s

abbrev pub MayLetGoIf : Option ℕ → StoreState → Type 0
MayLetGoIf None s = Unit {0}
MayLetGoIf (Some unit) s = MayLetGo unit s

-- a new task

-- Its record: it is under way, and is about to be named once.
abbrev pub new_record : ℕ → Priority → Option CutTag → Record
new_record number priority cut = record { task = number; number = number; priority = priority; references = 2; outcome = None; cut = cut; first = None; next = None; length = 0 }

-- The pool is this after it gave the block. The frame of the new task names these units.
abbrev pub made_task : BlockState → PoolState → Priority → Behind → List ℕ → List ℕ → EngineState → EngineState
made_task block pool priority behind names words e = record e {
  journal = with_accepted e.journal None behind.task;
  store = stored block.unit words (made block (new_record (next_number e.journal) priority behind.cut) (held_all names (record e.store { pool = pool })));
}

-- The running task spawned it, and has put it in place of what a variable named.
abbrev pub spawned : BlockState → PoolState → Priority → Behind → List ℕ → List ℕ → Option ℕ → EngineState → EngineState
spawned block pool priority behind names words old e =
    let task = made_task block pool priority behind names words e in
    with_store task (arrived block.unit behind.waits (let_go_if old task.store))

pub record MaySpawn (block : BlockState) (pool : PoolState) (priority : Priority) (behind : Behind) (names words : List ℕ) (old : Option ℕ) (e : EngineState) : Type 0 where
  pub after : IfSome behind.task (HasTask e.journal.rows)
  pub hold : MayHoldAll names (record e.store { pool = pool })
  pub fits : FitsAt e.store block.unit (length words)
  pub within : HasUnit e.store block.unit
  pub few : next_number e.journal < 2 ^ 32
  pub gives_up : MayLetGoIf old (made_task block pool priority behind names words e).store
  pub arrives : MayArrive block.unit behind.waits (let_go_if old (made_task block pool priority behind names words e).store)

-- a further activation

-- It is accepted; the frame gives up what its new state does not hold, and is kept.
abbrev pub renewed_task : ℕ → ℕ → Priority → Behind → List ℕ → List ℕ → EngineState → EngineState
renewed_task unit task priority behind given_up words e = record e {
  journal = with_accepted e.journal (Some task) behind.task;
  store = arrived unit behind.waits (stored unit words (let_go_all given_up (renewed unit (next_number e.journal) priority behind.cut e.store)));
}

pub record MayRenew (unit task : ℕ) (priority : Priority) (behind : Behind) (given_up words : List ℕ) (e : EngineState) : Type 0 where
  pub under_way : IsUnderWay e.journal task
  pub after : IfSome behind.task (HasTask e.journal.rows)
  pub within : HasUnit e.store unit
  pub gives_up : MayLetGoAll given_up (renewed unit (next_number e.journal) priority behind.cut e.store)
  pub fits : FitsAt e.store unit (length words)
  pub arrives : MayArrive unit behind.waits (stored unit words (let_go_all given_up (renewed unit (next_number e.journal) priority behind.cut e.store)))

-- the end of a task

-- its waiters join their queues, and it gives up what its frame names, and itself
abbrev pub finished : ℕ → ℕ → List ℕ → List ℕ → Outcome → Cause → EngineState → EngineState
finished unit task waiters names outcome why e = record e {
  journal = with_finished e.journal task why;
  store = let_go unit (let_go_all names (completed unit outcome waiters e.store));
}

pub record MayFinish (unit task : ℕ) (waiters names : List ℕ) (outcome : Outcome) (why : Cause) (e : EngineState) : Type 0 where
  pub under_way : IsUnderWay e.journal task
  pub caused : MayCause e.journal why
  pub completes : MayComplete unit waiters e.store
  pub gives_up : MayLetGoAll names (completed unit outcome waiters e.store)
  pub last : MayLetGo unit (let_go_all names (completed unit outcome waiters e.store))

-- a start

abbrev pub begun : Queues → ℕ → EngineState → EngineState
begun left number e = record e { journal = with_begun e.journal number; store = record e.store { ready = left } }

-- the record at a unit is of this task and activation
abbrev pub IsRecord : EngineState → ℕ → (Record → Type 0) → Type 0
IsRecord e unit P = (k : Record) × (slice_get e.store.records unit ≡ Some k) × P k
