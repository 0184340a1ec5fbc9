-- The chosen superblock, and the pool after a block was given from it.
use Rattle.std.proofs.Common.{◌≡◌, ◌⊎◌, ℕ, ◌<◌, ◌≤◌, List, Some, length, slice_get, get_or, sym, ◌∙◌, subst, inl, inr, arith}
use Rattle.std.proofs.lemmas.Option.{slice_get_within, get_or_from_slice_get}
use Rattle.claim_core.specs.Claims.{IsLowestClear}
use Rattle.kt_words.specs.Capacity.{capacity}
use Rattle.pool_core.specs.Choice.{IsChosen, Chooses}
use Rattle.pool_core.specs.Pool.{PoolState, IsSound, IsChosenFor, with_superblock}
use Rattle.pool_core.specs.Superblocks.{SuperblockState, IsEmpty, IsKept, given}
use Rattle.pool_core.proofs.Keeping.{IsKept_given}
use Rattle.pool_core.proofs.Sound.{IsSound-with}
use Rattle.pool_core.proofs.Units.{capacity_fills}

-- a superblock from which a block of the class can be given
pub record IsReady (pool : PoolState) (class place : ℕ) (superblock : SuperblockState) : Type 0 where
  pub there : slice_get pool.superblocks place ≡ Some superblock
  pub within : place < 1024
  pub kept : IsKept pool.units superblock
  pub of_class : (superblock.class ≡ class) ⊎ IsEmpty superblock
  pub below : superblock.count < capacity pool.units class
  pub size : capacity pool.units class ≤ length superblock.set
  pub few : capacity pool.units class ≤ 512
  pub chosen : IsChosen class (capacity pool.units class) pool.superblocks place superblock

pub there_of : (class room place : ℕ) (superblocks : List SuperblockState) (was : SuperblockState)
    → IsChosen class room superblocks place was → slice_get superblocks place ≡ Some was
there_of class room place superblocks was (inl first) = first.0
there_of class room place superblocks was (inr (none, first)) = first.0

of_class_of : (class room place : ℕ) (superblocks : List SuperblockState) (was : SuperblockState)
    → IsChosen class room superblocks place was → (was.class ≡ class) ⊎ IsEmpty was
of_class_of class room place superblocks was (inl first) = inl first.1.of_class
of_class_of class room place superblocks was (inr (none, first)) = inr first.1

below_of : (class room place : ℕ) (superblocks : List SuperblockState) (was : SuperblockState) → 1 ≤ room
    → IsChosen class room superblocks place was → was.count < room
below_of class room place superblocks was some (inl first) = first.1.below
below_of class room place superblocks was some (inr (none, first)) = omega (arith, some, first.1)

pub ready_at : (pool : PoolState) (class place : ℕ) (was : SuperblockState) → IsSound pool → class ≤ 3
    → IsChosen class (capacity pool.units class) pool.superblocks place was → IsReady pool class place was
ready_at pool class place was sound fits chosen =
    let there = there_of class (capacity pool.units class) place pool.superblocks was chosen in
    let whole = capacity_fills pool.units class sound.unit_count fits in
    record {
      there = there;
      within = omega (arith, slice_get_within pool.superblocks place was there, sound.few);
      kept = sound.kept place was there;
      of_class = of_class_of class (capacity pool.units class) place pool.superblocks was chosen;
      below = below_of class (capacity pool.units class) place pool.superblocks was whole.1 chosen;
      size = omega (arith, whole.2, (sound.kept place was there).size);
      few = omega (arith, whole.2, whole.4);
      chosen = chosen;
    }

-- what is read at the chosen place is the chosen superblock
pub ready : (pool : PoolState) (class place : ℕ) (now : SuperblockState) → IsSound pool → class ≤ 3
    → Chooses class (capacity pool.units class) pool.superblocks place → now ≡ get_or pool.superblocks place now → IsReady pool class place now
ready pool class place now sound fits (was, chosen) read =
    let same : was ≡ now = sym (read ∙ get_or_from_slice_get pool.superblocks place was now (there_of class (capacity pool.units class) place pool.superblocks was chosen)) in
    subst (IsReady pool class place) same (ready_at pool class place was sound fits chosen)

pub IsSound-given : (pool : PoolState) (class place bit : ℕ) (was : SuperblockState) → IsSound pool → class ≤ 3 → IsReady pool class place was
    → IsLowestClear was.set bit → bit < capacity pool.units class → IsSound (with_superblock pool place (given was class bit))
IsSound-given pool class place bit was sound fits ready lowest inside =
    IsSound-with pool place (given was class bit) sound (slice_get_within pool.superblocks place was ready.there)
    (IsKept_given pool.units class bit was ready.kept fits ready.of_class ready.below ready.few lowest.clear inside)

-- the same where the pool is seen in other words
pub ready_seen : {seen pool : PoolState} (class place : ℕ) {now : SuperblockState} → seen ≡ pool → IsSound seen → class ≤ 3
    → IsChosenFor pool class place → now ≡ get_or seen.superblocks place now → IsReady seen class place now
ready_seen {seen} {pool} class place {now} same sound fits chosen read =
    ready seen class place now sound fits (subst (λ (p : PoolState). IsChosenFor p class place) (sym same) chosen) read
