-- Sets of superblocks that can give a block, one bit for each superblock.
use Rattle.std.specs.Prelude.{◌≡◌, ◌⊎◌, ◌↔◌, ℕ, ◌<◌, ◌≤◌, Bool, false, List, [], length, slice_set, slice_index_or}
use Rattle.claim_core.specs.Claims.{IsSet}
use Rattle.pool_core.specs.declared.vacancies.Vacancies.{Vacancies}

-- no bit is set
abbrev pub IsNoneSet : List Bool → Type 0
IsNoneSet set = (superblock : ℕ) → IsSet set superblock → ⊥

-- this is the first that is set
pub record IsFirstSet (set : List Bool) (superblock : ℕ) : Type 0 where
  pub is_set : IsSet set superblock
  pub before : (other : ℕ) → other < superblock → IsSet set other → ⊥

-- the superblocks with room in a class
abbrev pub room_set : Vacancies → ℕ → List Bool
room_set vacancies class = slice_index_or vacancies.with_room class []

-- the first with room in the class, or, where there is none, the first that is empty
abbrev pub IsFirstVacancy : Vacancies → ℕ → ℕ → Type 0
IsFirstVacancy vacancies class superblock =
    IsFirstSet (room_set vacancies class) superblock ⊎ (IsNoneSet (room_set vacancies class) × IsFirstSet vacancies.empty superblock)

-- the set of a class, with a superblock in or out
abbrev pub with_room_noted : List (List Bool) → ℕ → ℕ → Bool → List (List Bool)
with_room_noted sets class superblock is_in = slice_set sets class (slice_set (slice_index_or sets class []) superblock is_in)

-- a superblock leaves the set of one class, and is in that of another or not, and among the empty ones or not
abbrev pub noted : Vacancies → ℕ → ℕ → ℕ → Bool → Bool → Vacancies
noted vacancies superblock was class has_room is_empty = record {
  with_room = with_room_noted (with_room_noted vacancies.with_room was superblock false) class superblock has_room;
  empty = slice_set vacancies.empty superblock is_empty;
}

-- the set has the first so many superblocks
pub record AreBelow (number : ℕ) (set : List Bool) : Type 0 where
  pub size : length set ≡ 1024
  pub are : (at : ℕ) → IsSet set at ↔ (at < number)

-- so many superblocks are empty, all of class 0
pub record AreUnusedVacancies (number : ℕ) (vacancies : Vacancies) : Type 0 where
  pub classes : length vacancies.with_room ≡ 4
  pub of_zero : AreBelow number (room_set vacancies 0)
  pub of_others : (class : ℕ) → 1 ≤ class → class ≤ 3 → AreBelow 0 (room_set vacancies class)
  pub empty : AreBelow number vacancies.empty
