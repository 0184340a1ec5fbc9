-- Of each class a block can be given, or there is no room for one.
use Rattle.std.proofs.Common.{◌≡◌, ◌⊎◌, ℕ, zero, suc, ◌<◌, ◌≤◌, Bool, true, false, List, [], ◌∷◌, Some, length, slice_get, refl, subst, inl, inr, ⊎_elim, arith}
use Rattle.std.proofs.lemmas.Bool.{cases_eq, cases_lt}
use Rattle.std.proofs.lemmas.Option.{same_Some, none-some}
use Rattle.claim_core.specs.Claims.{set_count, IsSet, IsLowestClear}
use Rattle.claim_core.proofs.Counted.{set_count-cons}
use Rattle.kt_words.specs.Capacity.{capacity}
use Rattle.pool_core.specs.Blocks.{block_at}
use Rattle.pool_core.specs.Choice.{Each, IsFirst, IsChosen, Chooses, IsWithoutRoom}
use Rattle.pool_core.specs.Laws.{MayGive, GivesOrHasNoRoom, NeverGivesWithoutRoom}
use Rattle.pool_core.specs.Pool.{PoolState, with_superblock, IsSound}
use Rattle.pool_core.specs.Superblocks.{SuperblockState, HasRoom, IsEmpty, given}
use Rattle.pool_core.proofs.Choosing.{IsWithoutRoom_from, Chooses_excludes}
use Rattle.pool_core.proofs.Giving.{ready_at}
use Rattle.pool_core.proofs.Units.{capacity_fills}

-- a test of superblocks: each passes or fails
abbrev Tests : (SuperblockState → Type 0) → Type 0
Tests P = (superblock : SuperblockState) → P superblock ⊎ (¬ P superblock)

-- the first of the others is the first of all where the first of all fails
first_later : (P : SuperblockState → Type 0) (first here : SuperblockState) (rest : List SuperblockState) (place : ℕ)
    → ¬ P first → IsFirst P rest place here → IsFirst P (first ∷ rest) (suc place) here
first_later P first here rest place fails found = (found.0, found.1, before)
  where
    before : (at : ℕ) (other : SuperblockState) → at < suc place → slice_get (first ∷ rest) at ≡ Some other → ¬ P other
    before zero other below there = subst (λ s. ¬ P s) (same_Some first other there) fails
    before (suc at) other below there = found.2 at other (omega arith) there

-- where the first fails and none of the others passes, none passes
none_of : (P : SuperblockState → Type 0) (first : SuperblockState) (rest : List SuperblockState)
    → ¬ P first → Each (λ s. ¬ P s) rest → Each (λ s. ¬ P s) (first ∷ rest)
none_of P first rest fails none zero other there = subst (λ s. ¬ P s) (same_Some first other there) fails
none_of P first rest fails none (suc at) other there = none at other there

-- some superblock is the first that passes, or none passes
first_or_none : (P : SuperblockState → Type 0) → Tests P → (superblocks : List SuperblockState)
    → ((place : ℕ) × ((here : SuperblockState) × IsFirst P superblocks place here)) ⊎ Each (λ s. ¬ P s) superblocks
first_or_none P test [] = inr (λ at other there. absurd (none-some other there))
first_or_none P test (first ∷ rest) =
    ⊎_elim
    (λ passes. inl (0, (first, (refl, passes, λ at other below there. absurd (omega arith)))))
    (λ fails. ⊎_elim
    (λ found. inl (suc found.0, (found.1.0, first_later P first found.1.0 rest found.0 fails found.1.1)))
    (λ none. inr (none_of P first rest fails none))
    (first_or_none P test rest))
    (test first)

-- whether a superblock has room can be told
test_room : (class room : ℕ) → Tests (HasRoom class room)
test_room class room superblock =
    ⊎_elim
    (λ same. ⊎_elim (λ below. inl (record { of_class = same; below = below })) (λ full. inr (λ has. omega (arith, has.below, full))) (cases_lt superblock.count room))
    (λ other. inr (λ has. other has.of_class))
    (cases_eq superblock.class class)

-- one superblock is chosen, or all are without room
chosen_or_none : (class room : ℕ) (superblocks : List SuperblockState)
    → ((place : ℕ) × Chooses class room superblocks place) ⊎ Each (IsWithoutRoom class room) superblocks
chosen_or_none class room superblocks =
    ⊎_elim
    (λ found. inl (found.0, (found.1.0, inl found.1.1)))
    (λ full. ⊎_elim
    (λ found. inl (found.0, (found.1.0, inr (full, found.1.1))))
    (λ used. inr (λ at other there. IsWithoutRoom_from class room other (full at other there) (used at other there)))
    (first_or_none IsEmpty (λ superblock. cases_eq superblock.count 0) superblocks))
    (first_or_none (HasRoom class room) (test_room class room) superblocks)

-- the lowest clear bit after one that is set
lowest_later : (bits : List Bool) → ((bit : ℕ) × IsLowestClear bits bit) → (bit : ℕ) × IsLowestClear (true ∷ bits) bit
lowest_later bits later = (suc later.0, record { clear = later.1.clear; below = below })
  where
    below : (other : ℕ) → other < suc later.0 → IsSet (true ∷ bits) other
    below zero lt = refl
    below (suc other) lt = later.1.below other (omega arith)

-- where not all bits are set, one is the lowest that is clear
lowest_clear_of : (bits : List Bool) → set_count bits < length bits → (bit : ℕ) × IsLowestClear bits bit
lowest_clear_of [] fewer = absurd (omega arith)
lowest_clear_of (false ∷ bits) fewer = (0, record { clear = refl; below = λ other below. absurd (omega arith) })
lowest_clear_of (true ∷ bits) fewer = lowest_later bits (lowest_clear_of bits (omega (arith, set_count-cons true bits)))

-- from the chosen superblock a block can be given
gives_from : (pool : PoolState) (class place : ℕ) (was : SuperblockState) → IsSound pool → class ≤ 3
    → IsChosen class (capacity pool.units class) pool.superblocks place was → MayGive pool class
gives_from pool class place was sound fits chosen =
    let ready = ready_at pool class place was sound fits chosen in
    let lowest = lowest_clear_of was.set (omega (arith, ready.below, ready.kept.counted, ready.size)) in (
      block_at pool.units place class lowest.0,
      (
        with_superblock pool place (given was class lowest.0),
        record { place = place; bit = lowest.0; was = was; chosen = chosen; lowest = lowest.1; block_is = refl; after = refl },
      ),
    )

pub gives_or_has_no_room : GivesOrHasNoRoom
gives_or_has_no_room pool class sound fits =
    ⊎_elim
    (λ found. inl (gives_from pool class found.0 found.1.0 sound fits found.1.1))
    (λ none. inr none)
    (chosen_or_none class (capacity pool.units class) pool.superblocks)

pub never_gives_without_room : NeverGivesWithoutRoom
never_gives_without_room pool class sound fits (block, (new, gives)) none =
    Chooses_excludes class (capacity pool.units class) pool.superblocks gives.place (capacity_fills pool.units class sound.unit_count fits).1 (gives.was, gives.chosen) none
