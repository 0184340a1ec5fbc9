-- What a superblock of a pool is seen as, and what becomes of it when a block is given or taken back.
use Rattle.std.specs.Prelude.{◌≡◌, ℕ, ◌+◌, ◌-◌, ◌^◌, ◌<◌, ◌≤◌, Bool, true, false, List, length, replicate, slice_set}
use Rattle.claim_core.specs.Claims.{set_count, IsSet}
use Rattle.kt_words.specs.Capacity.{capacity}
use Rattle.kt_words.specs.SuperWords.{risen}

-- the class of its blocks, how many of them are out, how many it ever gave, and for each place whether its block is out
pub record SuperblockState : Type 0 where
  pub class : ℕ
  pub count : ℕ
  pub ever : ℕ
  pub set : List Bool

-- nothing was ever given
abbrev pub unused : ℕ → SuperblockState
unused units = record { class = 0; count = 0; ever = 0; set = replicate units false }

-- one more block is out, at this place, and all are of this class
abbrev pub given : SuperblockState → ℕ → ℕ → SuperblockState
given was class bit = record { class = class; count = was.count + 1; ever = risen was.ever; set = slice_set was.set bit true }

-- the block of this place is back
abbrev pub taken_back : SuperblockState → ℕ → SuperblockState
taken_back was bit = record was { count = was.count - 1; set = slice_set was.set bit false }

-- there is room for one more block of the class, of which `room` fit
pub record HasRoom (class room : ℕ) (superblock : SuperblockState) : Type 0 where
  pub of_class : superblock.class ≡ class
  pub below : superblock.count < room

abbrev pub IsEmpty : SuperblockState → Type 0
IsEmpty superblock = superblock.count ≡ 0

-- the count is that of the blocks that are out, and these have places below the capacity
pub record IsKept (units : ℕ) (superblock : SuperblockState) : Type 0 where
  pub size : length superblock.set ≡ units
  pub class_fits : superblock.class ≤ 3
  pub counted : superblock.count ≡ set_count superblock.set
  pub inside : (bit : ℕ) → IsSet superblock.set bit → bit < capacity units superblock.class
  pub within : superblock.count ≤ capacity units superblock.class
  pub ever_fits : superblock.ever < 2 ^ 44
  pub ever_counts : superblock.count ≤ superblock.ever
