-- What comes of asking for a block and a number, and what the making of a task and the naming of it do.
use Rattle.std.specs.Prelude.{◌≡◌, ℕ, ◌+◌, ◌<◌, ◌≤◌, ◌^◌, Option, Some, None, List, length, slice_get}
use Rattle.task_syntax.specs.declared.program.Program.{Program}
use Rattle.task_syntax.specs.declared.value.Priority.{Priority}
use Rattle.pool_core.specs.Blocks.{BlockState}
use Rattle.pool_core.specs.Pool.{PoolState, Gives, HasNoRoom}
use Rattle.frame_code.specs.Words.{body_of}
use Rattle.frame_code.specs.Names.{names_of}
use Rattle.frame_code.specs.Moves.{passed_on}
use Rattle.frame_code.specs.Setting.{with_future}
use Rattle.record_core.specs.Numbers.{HasTask}
use Rattle.record_core.specs.Journal.{next_number, with_accepted}
use Rattle.record_core.specs.declared.rows.CutTag.{CutTag}
use Rattle.record_core.specs.declared.rows.CutTag.TheVariants.{Null, Limit}
use Rattle.plain_state.specs.declared.record.Behind.{Behind}
use Rattle.plain_state.specs.declared.record.Record.{Record}
use Rattle.plain_state.specs.Store.{StoreState, held, held_all, made, stored, without_block, HasUnit, MayHold, MayHoldAll, FitsAt}
use Rattle.plain_state.specs.Engine.{EngineState, with_store, with_pool, null_counted}
use Rattle.plain_state.specs.Moves.{arrived, new_record, let_go_if, MayArrive, MayLetGoIf}
use Rattle.plain_engine.specs.declared.ask.Answer.{Answer}
use Rattle.plain_engine.specs.declared.ask.Answer.TheVariants.{Given, Refused}

-- a null answer can be counted
abbrev pub MayCountNull : EngineState → ℕ → Type 0
MayCountNull e class = HasNoRoom e.store.pool class → e.nulls + 1 < 2 ^ 64

-- the pool gave the block, and the number was drawn for a new task
pub record IsGiven (old : EngineState) (class : ℕ) (after : Option ℕ) (block : BlockState) (number : ℕ) (new : EngineState) : Type 0 where
  pub pool : PoolState
  pub gives : Gives old.store.pool class block pool
  pub left : length old.journal.rows < old.journal.limit
  pub number_is : number ≡ next_number old.journal
  pub after_is : new ≡ record (with_pool old pool) { journal = with_accepted old.journal None after }

-- the pool gave a block and no number was left, so the block is back
pub record IsAtLimit (old : EngineState) (class : ℕ) (new : EngineState) : Type 0 where
  pub block : BlockState
  pub pool : PoolState
  pub gives : Gives old.store.pool class block pool
  pub none : old.journal.limit ≤ length old.journal.rows
  pub after_is : new ≡ with_pool old (without_block pool block)

-- what was refused: a block, which is counted, or a number
abbrev pub IsRefused : EngineState → ℕ → CutTag → EngineState → Type 0
IsRefused old class Null new = HasNoRoom old.store.pool class × (new ≡ null_counted class old)
IsRefused old class Limit new = IsAtLimit old class new

-- what comes of asking for a block of this class, and for a number behind this task
abbrev pub IsAnswer : EngineState → ℕ → Option ℕ → Answer → EngineState → Type 0
IsAnswer old class after (Given block number) new = IsGiven old class after block number new
IsAnswer old class after (Refused tag) new = IsRefused old class tag new

-- the record of a new task in its block, with its frame, which names these units
abbrev pub with_task : BlockState → ℕ → Priority → Behind → List ℕ → List ℕ → EngineState → EngineState
with_task block number priority behind names words e =
    with_store e (stored block.unit words (made block (new_record number priority behind.cut) (held_all names e.store)))

pub record MayMake (block : BlockState) (names words : List ℕ) (s : StoreState) : Type 0 where
  pub within : HasUnit s block.unit
  pub fits : FitsAt s block.unit (length words)
  pub hold : MayHoldAll names s

-- what a word names, if anything, is held once more
abbrev pub held_if : Option ℕ → StoreState → StoreState
held_if None s = s
held_if (Some unit) s = held unit s

abbrev pub MayHoldIf : Option ℕ → StoreState → Type 0
MayHoldIf None s = Unit {0}
MayHoldIf (Some unit) s = MayHold unit s

-- the units that the words of a frame name
abbrev pub units_in : Program → List ℕ → List ℕ
units_in p words = names_of (body_of p words)

-- the variable names the unit, and the frame stands at the next line
abbrev pub IsNamed : Program → ℕ → ℕ → List ℕ → List ℕ → Type 0
IsNamed p to unit old new = body_of p new ≡ passed_on (with_future to (Some unit) (body_of p old))

-- what the variable named is named once less
abbrev pub without_named : Option ℕ → EngineState → EngineState
without_named unit e = with_store e (let_go_if unit e.store)

-- what it is behind, if anything, has a record, and its task was accepted
abbrev pub IsKnown : EngineState → Option ℕ → Type 0
IsKnown e None = Unit {0}
IsKnown e (Some unit) = (known : Record) × (slice_get e.store.records unit ≡ Some known) × HasTask e.journal.rows known.task

-- a new task in its block takes the place of what a variable named, and waits or may start
abbrev pub placed : BlockState → ℕ → Priority → Behind → List ℕ → List ℕ → Option ℕ → EngineState → EngineState
placed block number priority behind names words old e =
    let task = with_task block number priority behind names words e in
    with_store task (arrived block.unit behind.waits (let_go_if old task.store))

pub record MayPlace (block : BlockState) (number : ℕ) (priority : Priority) (behind : Behind) (names words : List ℕ) (old : Option ℕ) (e : EngineState) : Type 0 where
  pub make : MayMake block names words e.store
  pub gives_up : MayLetGoIf old (with_task block number priority behind names words e).store
  pub arrives : MayArrive block.unit behind.waits (let_go_if old (with_task block number priority behind names words e).store)
