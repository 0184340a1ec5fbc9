-- What the pool of the records gives and takes, and when a frame can be read.
use Rattle.std.specs.Prelude.{◌≡◌, ℕ, ◌+◌, ◌*◌, ◌<◌, ◌≤◌, cond, nat_eq, Option, Some, None, List, length, take, slice_get}
use Rattle.pool_core.specs.Superblocks.{SuperblockState}
use Rattle.record_core.specs.Sums.{total}
use Rattle.pool_core.specs.Blocks.{BlockState}
use Rattle.pool_core.specs.Pool.{PoolState, Gives, IsOut}
use Rattle.record_core.specs.Numbers.{flat}
use Rattle.plain_state.specs.declared.record.Record.{Record}
use Rattle.plain_state.specs.Store.{StoreState, units_of, without_block, written}

-- the pool gave the block, and nothing else changes
pub record Allocates (old : StoreState) (class : ℕ) (block : BlockState) (new : StoreState) : Type 0 where
  pub pool : PoolState
  pub gives : Gives old.pool class block pool
  pub after : new ≡ record old { pool = pool }
  pub out : IsOut pool block

-- the block is back, and nothing else changes
abbrev pub IsReleasedFrom : StoreState → BlockState → StoreState → Type 0
IsReleasedFrom old block new = new ≡ record old { pool = without_block old.pool block }

-- the block at the unit, if there is one, is out
pub record IsGivenBack (pool : PoolState) (blocks : List (Option BlockState)) (unit : ℕ) : Type 0 where
  pub within : unit < length blocks
  pub out : (block : BlockState) → flat (slice_get blocks unit) ≡ Some block → IsOut pool block

abbrev pub pool_without_if : PoolState → Option BlockState → PoolState
pool_without_if pool None = pool
pool_without_if pool (Some block) = without_block pool block

-- the pool with the block at the unit, if there is one, back in it
abbrev pub pool_without : PoolState → List (Option BlockState) → ℕ → PoolState
pool_without pool blocks unit = pool_without_if pool (flat (slice_get blocks unit))

-- how many blocks of a class are out of the superblocks before one
abbrev pub out_before : PoolState → ℕ → ℕ → ℕ
out_before pool class before = total (λ (s : SuperblockState). cond (nat_eq s.class class) s.count 0) (take before pool.superblocks)

-- the record at the unit has a frame, which lies among the words
pub record HasFrame (s : StoreState) (unit : ℕ) : Type 0 where
  pub known : Record
  pub there : slice_get s.records unit ≡ Some known
  pub fits : unit * 8 + known.length ≤ units_of s * 8
  pub few : known.length ≤ 64

-- these words stand over those from a place on
abbrev pub with_written : ℕ → List ℕ → StoreState → StoreState
with_written at words s = record s { words = written at words s.words }
