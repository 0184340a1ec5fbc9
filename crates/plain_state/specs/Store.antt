-- What the records of a run are seen as, by the first unit of their block, and what each call does to them.
use Rattle.std.specs.Prelude.{◌≡◌, ℕ, ◌+◌, ◌*◌, ◌-◌, ◌/◌, ◌%◌, ◌<◌, ◌≤◌, ◌^◌, cond, nat_eq, Bool, Option, Some, None, List, [], ◌∷◌, ◌++◌, length, take, drop, replicate, slice_get, slice_set}
use Rattle.task_syntax.specs.Places.{Each}
use Rattle.task_syntax.specs.declared.value.Priority.{Priority}
use Rattle.task_syntax.specs.declared.value.Priority.TheVariants.{Regular}
use Rattle.kt_words.specs.Capacity.{block_units}
use Rattle.pool_core.specs.Blocks.{BlockState}
use Rattle.pool_core.specs.Superblocks.{SuperblockState, taken_back}
use Rattle.pool_core.specs.Pool.{PoolState, unused_pool, with_superblock, IsOut}
use Rattle.record_core.specs.Numbers.{flat}
use Rattle.record_core.specs.Sums.{total}
use Rattle.record_core.specs.declared.rows.CutTag.{CutTag}
use Rattle.run_model.specs.State.{Queues, queued, no_queues}
use Rattle.plain_state.specs.declared.record.Outcome.{Outcome}
use Rattle.plain_state.specs.declared.record.Outcome.TheVariants.{Gave, WasCut}
use Rattle.plain_state.specs.declared.record.Record.{Record}

-- The pool; the block that is out at each unit, if one begins there and has a record; the record there; the words of all
-- frames, 8 to a unit; and the tasks in the queues, each by the unit of its record.
pub record StoreState : Type 0 where
  pub pool : PoolState
  pub blocks : List (Option BlockState)
  pub records : List Record
  pub words : List ℕ
  pub ready : Queues

-- how many units there are
abbrev pub units_of : StoreState → ℕ
units_of s = length s.records

-- what was never written is not read
abbrev pub no_record : Record
no_record = record { task = 0; number = 0; priority = Regular; references = 0; outcome = None; cut = None; first = None; next = None; length = 0 }

-- nothing was made
abbrev pub unused_store : ℕ → ℕ → StoreState
unused_store superblocks units = record {
  pool = unused_pool superblocks units;
  blocks = replicate (superblocks * units) None;
  records = replicate (superblocks * units) no_record;
  words = replicate (superblocks * units * 8) 0;
  ready = no_queues;
}

-- one record changed

abbrev pub changed_in : (Record → Record) → ℕ → List Record → Option Record → List Record
changed_in f unit records None = records
changed_in f unit records (Some k) = slice_set records unit (f k)

abbrev pub changed_at : (Record → Record) → ℕ → List Record → List Record
changed_at f unit records = changed_in f unit records (slice_get records unit)

abbrev pub changed : (Record → Record) → ℕ → StoreState → StoreState
changed f unit s = record s { records = changed_at f unit s.records }

-- the pool, and blocks going back to it

abbrev pub taken_from : PoolState → BlockState → ℕ → Option SuperblockState → PoolState
taken_from pool block place None = pool
taken_from pool block place (Some was) = with_superblock pool place (taken_back was (block.unit % pool.units / block_units block.class))

-- the place of the block is free again
abbrev pub without_block : PoolState → BlockState → PoolState
without_block pool block = taken_from pool block (block.unit / pool.units) (slice_get pool.superblocks (block.unit / pool.units))

abbrev pub given_back_if : ℕ → StoreState → Option BlockState → StoreState
given_back_if unit s None = s
given_back_if unit s (Some block) = record s { pool = without_block s.pool block; blocks = slice_set s.blocks unit None }

-- the block of the record at this unit is back
abbrev pub given_back : ℕ → StoreState → StoreState
given_back unit s = given_back_if unit s (flat (slice_get s.blocks unit))

-- references

abbrev pub more : Record → Record
more k = record k { references = k.references + 1 }

abbrev pub less : Record → Record
less k = record k { references = k.references - 1 }

abbrev pub held : ℕ → StoreState → StoreState
held unit s = changed more unit s

abbrev pub held_all : List ℕ → StoreState → StoreState
held_all [] s = s
held_all (unit ∷ units) s = held_all units (held unit s)

abbrev pub is_last : Option Record → Bool
is_last None = Bool.false
is_last (Some k) = nat_eq k.references 1

-- referred to once less: where that was the last reference, the block is back
abbrev pub let_go : ℕ → StoreState → StoreState
let_go unit s = cond (is_last (slice_get s.records unit)) (given_back unit (changed less unit s)) (changed less unit s)

abbrev pub let_go_all : List ℕ → StoreState → StoreState
let_go_all [] s = s
let_go_all (unit ∷ units) s = let_go_all units (let_go unit s)

-- making

-- a list with these items from a place on
abbrev pub written : ℕ → List ℕ → List ℕ → List ℕ
written at items xs = take at xs ++ items ++ drop (at + length items) xs

abbrev pub with_length : ℕ → Record → Record
with_length n k = record k { length = n }

-- the frame of the record at this unit has these words
abbrev pub stored : ℕ → List ℕ → StoreState → StoreState
stored unit words s = record s { words = written (unit * 8) words s.words; records = changed_at (with_length (length words)) unit s.records }

-- a record in its block
abbrev pub made : BlockState → Record → StoreState → StoreState
made block k s = record s { blocks = slice_set s.blocks block.unit (Some block); records = slice_set s.records block.unit k }

abbrev pub frame_in : ℕ → List ℕ → Option Record → List ℕ
frame_in unit words None = []
frame_in unit words (Some k) = take k.length (drop (unit * 8) words)

-- the words of the frame of the record at this unit
abbrev pub frame_at : StoreState → ℕ → List ℕ
frame_at s unit = frame_in unit s.words (slice_get s.records unit)

-- queues and waiters

abbrev pub priority_in : Option Record → Priority
priority_in None = Regular
priority_in (Some k) = k.priority

-- the last in the queue of its priority
abbrev pub queued_at : ℕ → StoreState → StoreState
queued_at unit s = record s { ready = queued (priority_in (slice_get s.records unit)) unit s.ready }

abbrev pub first_in : Option Record → Option ℕ
first_in None = None
first_in (Some k) = k.first

abbrev pub with_next : Option ℕ → Record → Record
with_next next k = record k { next = next }

abbrev pub with_first : Option ℕ → Record → Record
with_first first k = record k { first = first }

-- the task of the one unit joins the waiters of the other, in front
abbrev pub linked : ℕ → ℕ → StoreState → StoreState
linked waiter target s = changed (with_first (Some waiter)) target (changed (with_next (first_in (slice_get s.records target))) waiter s)

-- a further activation was accepted
abbrev pub renewed_by : ℕ → Priority → Option CutTag → Record → Record
renewed_by number priority cut k = record k { number = number; priority = priority; cut = cut }

abbrev pub renewed : ℕ → ℕ → Priority → Option CutTag → StoreState → StoreState
renewed unit number priority cut s = changed (renewed_by number priority cut) unit s

abbrev pub with_cut : Option CutTag → Record → Record
with_cut cut k = record k { cut = cut }

-- these join their queues in this order, and know how the task was cut that they are behind
abbrev pub woken : Option CutTag → List ℕ → StoreState → StoreState
woken cut [] s = s
woken cut (unit ∷ units) s = woken cut units (queued_at unit (changed (with_cut cut) unit s))

abbrev pub cut_of : Outcome → Option CutTag
cut_of (Gave value) = None
cut_of (WasCut tag) = Some tag

abbrev pub with_outcome : Outcome → Record → Record
with_outcome outcome k = record k { outcome = Some outcome; first = None }

-- the task at this unit has ended so, and these were its waiters
abbrev pub completed : ℕ → Outcome → List ℕ → StoreState → StoreState
completed unit outcome waiters s = woken (cut_of outcome) waiters (changed (with_outcome outcome) unit s)

-- the list that begins with this unit goes through these units
abbrev pub Chained : List Record → Option ℕ → List ℕ → Type 0
Chained records None [] = Unit {0}
Chained records (Some unit) (at ∷ units) = (unit ≡ at) × ((k : Record) × (slice_get records unit ≡ Some k) × Chained records k.next units)
Chained records _ _ = ⊥

-- how many blocks of a class are out
abbrev pub out_of_class : PoolState → ℕ → ℕ
out_of_class pool class = total (λ (s : SuperblockState). cond (nat_eq s.class class) s.count 0) pool.superblocks

-- what each store keeps: a record for each unit, a block or none, and 8 words
pub record IsShaped (s : StoreState) : Type 0 where
  pub units : length s.records ≡ length s.pool.superblocks * s.pool.units
  pub of_blocks : length s.blocks ≡ length s.records
  pub of_words : length s.words ≡ length s.records * 8

-- when calls may be made

abbrev pub queued_count : Queues → ℕ
queued_count q = length q.high + length q.regular + length q.low

-- so many more may join the queues
abbrev pub HasPlaces : StoreState → ℕ → Type 0
HasPlaces s more = queued_count s.ready + more ≤ units_of s

-- one more reference to the record at this unit can be counted
abbrev pub MayHold : ℕ → StoreState → Type 0
MayHold unit s = (k : Record) × (slice_get s.records unit ≡ Some k) × (k.references + 1 < 2 ^ 32)

abbrev pub MayHoldAll : List ℕ → StoreState → Type 0
MayHoldAll [] s = Unit {0}
MayHoldAll (unit ∷ units) s = MayHold unit s × MayHoldAll units (held unit s)

-- there is a reference to the record at this unit, which stands in its block
pub record MayLetGo (unit : ℕ) (s : StoreState) : Type 0 where
  pub known : Record
  pub block : BlockState
  pub there : slice_get s.records unit ≡ Some known
  pub some : 1 ≤ known.references
  pub has : slice_get s.blocks unit ≡ Some (Some block)
  pub out : IsOut s.pool block

abbrev pub MayLetGoAll : List ℕ → StoreState → Type 0
MayLetGoAll [] s = Unit {0}
MayLetGoAll (unit ∷ units) s = MayLetGo unit s × MayLetGoAll units (let_go unit s)

-- there is a record at this unit
abbrev pub HasUnit : StoreState → ℕ → Type 0
HasUnit s unit = unit < units_of s

-- the task there may end: these are its waiters, and there is a place for each in the queues
pub record MayComplete (unit : ℕ) (waiters : List ℕ) (s : StoreState) : Type 0 where
  pub within : HasUnit s unit
  pub inside : Each waiters (HasUnit s)
  pub apart : Each waiters (λ waiter. ¬ (waiter ≡ unit))
  pub chain : Chained s.records (first_in (slice_get s.records unit)) waiters
  pub places : HasPlaces s (length waiters)

-- these words fit from this unit on
abbrev pub FitsAt : StoreState → ℕ → ℕ → Type 0
FitsAt s unit length = (unit * 8 + length ≤ units_of s * 8) × (length ≤ 64)
