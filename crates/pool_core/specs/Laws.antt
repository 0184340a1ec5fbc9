-- Laws of pools.
use Rattle.std.specs.Prelude.{◌≡◌, ◌↔◌, ◌⊎◌, ◌==◌, ℕ, ◌≤◌, Some, cond, length, slice_get}
use Rattle.kt_words.specs.Capacity.{IsWithoutRoom}
use Rattle.pool_core.specs.Blocks.{BlockState}
use Rattle.pool_core.specs.Pool.{PoolState, IsOut, IsOutIn, Gives, HasNoRoom, IsSound, SoMany, BlocksAreApart, BlocksAreInside, BlocksAreCounted}
use Rattle.pool_core.specs.Superblocks.{SuperblockState}

abbrev pub SoundBlocksAreApart : Type 0
SoundBlocksAreApart = (pool : PoolState) → IsSound pool → BlocksAreApart pool

abbrev pub SoundBlocksAreInside : Type 0
SoundBlocksAreInside = (pool : PoolState) → IsSound pool → BlocksAreInside pool

abbrev pub SoundBlocksAreCounted : Type 0
SoundBlocksAreCounted = (pool : PoolState) → IsSound pool → BlocksAreCounted pool

-- what is given, and the pool afterwards, is one and the same whenever it is given
abbrev pub OneIsGiven : Type 0
OneIsGiven = (old : PoolState) (class : ℕ) (block other : BlockState) (new newer : PoolState)
    → Gives old class block new → Gives old class other newer → (block ≡ other) × (new ≡ newer)

-- some block can be given
abbrev pub MayGive : PoolState → ℕ → Type 0
MayGive pool class = (block : BlockState) × ((new : PoolState) × Gives pool class block new)

-- a pool gives a block of the class or has no room for one
abbrev pub GivesOrHasNoRoom : Type 0
GivesOrHasNoRoom = (pool : PoolState) (class : ℕ) → IsSound pool → class ≤ 3 → MayGive pool class ⊎ HasNoRoom pool class

-- and never both
abbrev pub NeverGivesWithoutRoom : Type 0
NeverGivesWithoutRoom = (pool : PoolState) (class : ℕ) → IsSound pool → class ≤ 3 → MayGive pool class → HasNoRoom pool class → ⊥

-- a pool has no room for a class exactly where each superblock's class and count leave none
abbrev pub NoRoomIsFull : Type 0
NoRoomIsFull = (pool : PoolState) (class : ℕ) → HasNoRoom pool class
    ↔ ((place : ℕ) (superblock : SuperblockState) → slice_get pool.superblocks place ≡ Some superblock → IsWithoutRoom pool.units class superblock.class superblock.count)

-- the blocks of a class that are out of a superblock: as many as its count where it is of the class, else none
abbrev pub SuperblocksAreCounted : Type 0
SuperblocksAreCounted = (pool : PoolState) (place class : ℕ) (superblock : SuperblockState) → IsSound pool
    → slice_get pool.superblocks place ≡ Some superblock
    → SoMany (IsOutIn pool place class) (cond (superblock.class == class) superblock.count 0)

-- the same blocks are out of this superblock in two pools
abbrev pub HaveSameOut : PoolState → PoolState → ℕ → Type 0
HaveSameOut one other place = (class : ℕ) (block : BlockState) → IsOutIn one place class block ↔ IsOutIn other place class block

-- what a superblock is, is said by its class, how many it ever gave, and its blocks that are out
abbrev pub SuperblockIsItsBlocks : Type 0
SuperblockIsItsBlocks = (one other : PoolState) (place : ℕ) (was now : SuperblockState) → IsSound one → IsSound other → one.units ≡ other.units
    → slice_get one.superblocks place ≡ Some was → slice_get other.superblocks place ≡ Some now
    → was.class ≡ now.class → was.ever ≡ now.ever → HaveSameOut one other place → was ≡ now

-- superblocks at one place have one class and gave equally many
abbrev pub HaveSameNumbers : PoolState → PoolState → Type 0
HaveSameNumbers one other = (place : ℕ) (was now : SuperblockState) → slice_get one.superblocks place ≡ Some was
    → slice_get other.superblocks place ≡ Some now → (was.class ≡ now.class) × (was.ever ≡ now.ever)

-- and so is a whole pool
abbrev pub PoolIsItsBlocks : Type 0
PoolIsItsBlocks = (one other : PoolState) → IsSound one → IsSound other → one.units ≡ other.units
    → length one.superblocks ≡ length other.superblocks → HaveSameNumbers one other
    → ((block : BlockState) → IsOut one block ↔ IsOut other block) → one ≡ other
