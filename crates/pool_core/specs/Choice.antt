-- Which superblock gives a block.
use Rattle.std.specs.Prelude.{◌≡◌, ◌≢◌, ◌⊎◌, ℕ, ◌<◌, ◌≤◌, List, Some, slice_get}
use Rattle.pool_core.specs.Superblocks.{SuperblockState, HasRoom, IsEmpty}

-- each has P
abbrev pub Each : (SuperblockState → Type 0) → List SuperblockState → Type 0
Each P superblocks = (at : ℕ) (superblock : SuperblockState) → slice_get superblocks at ≡ Some superblock → P superblock

-- none before this place has P
abbrev pub NoneBefore : (SuperblockState → Type 0) → List SuperblockState → ℕ → Type 0
NoneBefore P superblocks place = (at : ℕ) (superblock : SuperblockState) → at < place → slice_get superblocks at ≡ Some superblock → ¬ P superblock

-- this is the first that has P
abbrev pub IsFirst : (SuperblockState → Type 0) → List SuperblockState → ℕ → SuperblockState → Type 0
IsFirst P superblocks place superblock = (slice_get superblocks place ≡ Some superblock) × P superblock × NoneBefore P superblocks place

-- the first of the class with room, or, where there is none, the first that is empty
abbrev pub IsChosen : ℕ → ℕ → List SuperblockState → ℕ → SuperblockState → Type 0
IsChosen class room superblocks place superblock =
    IsFirst (HasRoom class room) superblocks place superblock
    ⊎ (Each (λ other. ¬ HasRoom class room other) superblocks × IsFirst IsEmpty superblocks place superblock)

-- some superblock stands at the place, and is chosen
abbrev pub Chooses : ℕ → ℕ → List SuperblockState → ℕ → Type 0
Chooses class room superblocks place = (superblock : SuperblockState) × IsChosen class room superblocks place superblock

-- full in this class, or of another class with blocks that are out
abbrev pub IsWithoutRoom : ℕ → ℕ → SuperblockState → Type 0
IsWithoutRoom class room superblock =
    ((superblock.class ≡ class) × (room ≤ superblock.count)) ⊎ ((superblock.class ≢ class) × (0 < superblock.count))
