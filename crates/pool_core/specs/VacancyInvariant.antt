-- An invariant of pools, which no public contract shows: the sets have the superblocks that can give a block.
use Rattle.std.specs.Prelude.{◌≡◌, ◌↔◌, ℕ, ◌^◌, ◌≤◌, Bool, List, Some, length, slice_get}
use Rattle.claim_core.specs.Claims.{IsSet}
use Rattle.kt_words.specs.Capacity.{capacity}
use Rattle.pool_core.specs.Superblocks.{SuperblockState, HasRoom, IsEmpty}
use Rattle.pool_core.specs.Vacancies.{room_set}
use Rattle.pool_core.specs.declared.vacancies.Vacancies.{Vacancies}

-- some superblock stands at this position and has P
abbrev pub HasAt : (SuperblockState → Type 0) → List SuperblockState → ℕ → Type 0
HasAt P superblocks at = (superblock : SuperblockState) × ((slice_get superblocks at ≡ Some superblock) × P superblock)

-- the set has the superblocks with P
pub record AreThose (P : SuperblockState → Type 0) (superblocks : List SuperblockState) (set : List Bool) : Type 0 where
  pub size : length set ≡ 1024
  pub are : (at : ℕ) → IsSet set at ↔ HasAt P superblocks at

-- these are the superblocks with room, class by class, and the empty ones
pub record AreVacancies (units : ℕ) (superblocks : List SuperblockState) (vacancies : Vacancies) : Type 0 where
  pub classes : length vacancies.with_room ≡ 4
  pub with_room : (class : ℕ) → class ≤ 3 → AreThose (HasRoom class (capacity units class)) superblocks (room_set vacancies class)
  pub empty : AreThose IsEmpty superblocks vacancies.empty

-- so many units are this power of two
pub record IsShiftOf (shift units : ℕ) : Type 0 where
  pub power : units ≡ 2 ^ shift
  pub few : shift ≤ 9
