-- When a superblock has room, is empty, or is without room.
use Rattle.std.proofs.Common.{ℕ, ◌<◌, List, inl, inr, ⊎_elim, arith}
use Rattle.std.proofs.lemmas.Bool.{cases_eq, cases_lt}
use Rattle.pool_core.specs.Choice.{Each, Chooses, IsWithoutRoom}
use Rattle.pool_core.specs.Superblocks.{SuperblockState, HasRoom, IsEmpty}

-- a superblock that has no room and is not empty
pub IsWithoutRoom_from : (class room : ℕ) (superblock : SuperblockState) → ¬ HasRoom class room superblock → ¬ IsEmpty superblock → IsWithoutRoom class room superblock
IsWithoutRoom_from class room superblock full out =
    ⊎_elim
    (λ e. inl (e, ⊎_elim (λ lt. absurd (full (record { of_class = e; below = lt }))) (λ le. le) (cases_lt superblock.count room)))
    (λ ne. inr (ne, ⊎_elim (λ e. absurd (out e)) (λ other. omega arith) (cases_eq superblock.count 0)))
    (cases_eq superblock.class class)

pub HasRoom_excludes : (class room : ℕ) (superblock : SuperblockState) → HasRoom class room superblock → ¬ IsWithoutRoom class room superblock
HasRoom_excludes class room superblock has (inl (e, full)) = absurd (omega (arith, has.below, full))
HasRoom_excludes class room superblock has (inr (ne, some)) = ne has.of_class

pub IsEmpty_excludes : (class room : ℕ) (superblock : SuperblockState) → 0 < room → IsEmpty superblock → ¬ IsWithoutRoom class room superblock
IsEmpty_excludes class room superblock some empty (inl (e, full)) = absurd (omega (arith, some, empty, full))
IsEmpty_excludes class room superblock some empty (inr (ne, out)) = absurd (omega (arith, empty, out))

-- where one is chosen, not all are closed
pub Chooses_excludes : (class room : ℕ) (superblocks : List SuperblockState) (place : ℕ) → 0 < room
    → Chooses class room superblocks place → ¬ Each (IsWithoutRoom class room) superblocks
Chooses_excludes class room superblocks place some (was, inl (there, has, before)) closed =
    HasRoom_excludes class room was has (closed place was there)
Chooses_excludes class room superblocks place some (was, inr (none, (there, empty, before))) closed =
    IsEmpty_excludes class room was some empty (closed place was there)
