-- What a pool is seen as, which blocks are out of it, and what a call does to it.
use Rattle.std.specs.Prelude.{◌≡◌, ◌≢◌, ◌↔◌, ℕ, ◌*◌, ◌/◌, ◌%◌, ◌+◌, ◌≤◌, List, Some, Contains, length, slice_get, slice_set, replicate, sum_by}
use Rattle.claim_core.specs.Claims.{IsSet, IsLowestClear}
use Rattle.kt_words.specs.Capacity.{block_units, capacity}
use Rattle.kt_words.specs.Ranges.{IsUnitCount}
use Rattle.pool_core.specs.Blocks.{BlockState, block_at, HasUnit}
use Rattle.pool_core.specs.Choice.{Each, IsChosen, Chooses, IsWithoutRoom}
use Rattle.pool_core.specs.Superblocks.{SuperblockState, given, taken_back, unused, IsKept}

-- how many units each superblock has, and the superblocks in their order
pub record PoolState : Type 0 where
  pub units : ℕ
  pub superblocks : List SuperblockState

-- no block was ever given
abbrev pub unused_pool : ℕ → ℕ → PoolState
unused_pool superblocks units = record { units = units; superblocks = replicate superblocks (unused units) }

-- the block at this place of this superblock is out
pub record IsOutAt (pool : PoolState) (block : BlockState) (place bit : ℕ) (superblock : SuperblockState) : Type 0 where
  pub there : slice_get pool.superblocks place ≡ Some superblock
  pub is_set : IsSet superblock.set bit
  pub block_is : block ≡ block_at pool.units place superblock.class bit

-- the pool gave the block, and it is not back
pub record IsOut (pool : PoolState) (block : BlockState) : Type 0 where
  pub place : ℕ
  pub bit : ℕ
  pub superblock : SuperblockState
  pub at : IsOutAt pool block place bit superblock

-- the block is out, it stands in this superblock, and it is of this class
pub record IsOutIn (pool : PoolState) (place class : ℕ) (block : BlockState) : Type 0 where
  pub bit : ℕ
  pub superblock : SuperblockState
  pub at : IsOutAt pool block place bit superblock
  pub class_is : block.class ≡ class

-- the pool with one superblock in another state
abbrev pub with_superblock : PoolState → ℕ → SuperblockState → PoolState
with_superblock pool place superblock = record pool { superblocks = slice_set pool.superblocks place superblock }

-- the lowest free place of the chosen superblock is given, and nothing else changes
pub record Gives (old : PoolState) (class : ℕ) (block : BlockState) (new : PoolState) : Type 0 where
  pub place : ℕ
  pub bit : ℕ
  pub was : SuperblockState
  pub chosen : IsChosen class (capacity old.units class) old.superblocks place was
  pub lowest : IsLowestClear was.set bit
  pub block_is : block ≡ block_at old.units place class bit
  pub after : new ≡ with_superblock old place (given was class bit)

-- the place of the block is free again, and nothing else changes
pub record TakesBack (old : PoolState) (block : BlockState) (new : PoolState) : Type 0 where
  pub place : ℕ
  pub bit : ℕ
  pub was : SuperblockState
  pub out : IsOutAt old block place bit was
  pub place_is : place ≡ block.unit / old.units
  pub bit_is : bit ≡ block.unit % old.units / block_units block.class
  pub after : new ≡ with_superblock old place (taken_back was bit)

-- a block of the class is given from this superblock
abbrev pub IsChosenFor : PoolState → ℕ → ℕ → Type 0
IsChosenFor pool class place = Chooses class (capacity pool.units class) pool.superblocks place

-- no superblock has room for a block of the class
abbrev pub HasNoRoom : PoolState → ℕ → Type 0
HasNoRoom pool class = Each (IsWithoutRoom class (capacity pool.units class)) pool.superblocks

-- what every pool keeps
pub record IsSound (pool : PoolState) : Type 0 where
  pub some : 1 ≤ length pool.superblocks
  pub few : length pool.superblocks ≤ 1024
  pub unit_count : IsUnitCount pool.units
  pub kept : Each (IsKept pool.units) pool.superblocks

-- after a block was given, the blocks that are out are those that were, and this one, which was not
pub record Adds (old : PoolState) (block : BlockState) (new : PoolState) : Type 0 where
  pub was_in : ¬ IsOut old block
  pub is_out : IsOut new block
  pub others : (other : BlockState) → other ≢ block → IsOut new other ↔ IsOut old other

-- after a block was taken back, the blocks that are out are those that were, without this one
pub record Removes (old : PoolState) (block : BlockState) (new : PoolState) : Type 0 where
  pub is_in : ¬ IsOut new block
  pub others : (other : BlockState) → other ≢ block → IsOut new other ↔ IsOut old other

-- two blocks that are out and share a unit are one block
abbrev pub BlocksAreApart : PoolState → Type 0
BlocksAreApart pool = (one other : BlockState) (unit : ℕ) → IsOut pool one → IsOut pool other → HasUnit one unit → HasUnit other unit → one ≡ other

-- each unit of a block that is out is one of the pool's
abbrev pub BlocksAreInside : PoolState → Type 0
BlocksAreInside pool = (block : BlockState) → IsOut pool block → block.unit + block_units block.class ≤ length pool.superblocks * pool.units

-- these are the blocks that have P, each once
pub record AreAll (P : BlockState → Type 0) (blocks : List BlockState) : Type 0 where
  pub members : (block : BlockState) → Contains blocks block ↔ P block
  pub once : (i j : ℕ) (block : BlockState) → slice_get blocks i ≡ Some block → slice_get blocks j ≡ Some block → i ≡ j

-- so many blocks have P: they can be listed, each once, and each such list has this length
pub record SoMany (P : BlockState → Type 0) (number : ℕ) : Type 0 where
  pub blocks : List BlockState
  pub all : AreAll P blocks
  pub length_is : (listed : List BlockState) → AreAll P listed → length listed ≡ number

-- these are the blocks that are out, each once
abbrev pub AreAllOut : PoolState → List BlockState → Type 0
AreAllOut pool blocks = AreAll (IsOut pool) blocks

-- the counts are together the number of blocks that are out
abbrev pub BlocksAreCounted : PoolState → Type 0
BlocksAreCounted pool = (blocks : List BlockState) × AreAllOut pool blocks × (length blocks ≡ sum_by (λ (s : SuperblockState). s.count) pool.superblocks)
