-- What every pool keeps, and what follows from it.
use Rattle.std.proofs.Common.{◌≡◌, ℕ, ◌<◌, ◌≤◌, zero, suc, true, false, lit<, replicate, List, Some, length, slice_get, get_or, set, refl, sym, ◌∙◌, ap, subst, ⊎_elim, arith, length-set}
use Rattle.std.proofs.lemmas.Bool.{cases_eq, false≢true}
use Rattle.std.proofs.lemmas.List.{length-replicate}
use Rattle.claim_core.proofs.Counted.{set_count-none}
use Rattle.kt_words.specs.Ranges.{IsUnitCount}
use Rattle.std.proofs.lemmas.Option.{none-some, same_Some, slice_get_read}
use Rattle.pool_core.specs.Choice.{Each}
use Rattle.pool_core.specs.Pool.{PoolState, IsSound, unused_pool, with_superblock}
use Rattle.pool_core.specs.Superblocks.{SuperblockState, IsKept, unused}
use Rattle.pool_core.proofs.Places.{slice_get-set_same, slice_get-set_other}

pub same_in_replicate : {X : Type 0} (n : ℕ) (x : X) (at : ℕ) (y : X) → slice_get (replicate n x) at ≡ Some y → x ≡ y
same_in_replicate zero x at y there = absurd (none-some y there)
same_in_replicate (suc n) x zero y there = same_Some x y there
same_in_replicate (suc n) x (suc at) y there = same_in_replicate n x at y there

pub Each-set : (P : SuperblockState → Type 0) (superblocks : List SuperblockState) (place : ℕ) (new : SuperblockState)
    → Each P superblocks → P new → place < length superblocks → Each P (set superblocks place new)
Each-set P superblocks place new all here within at other there =
    ⊎_elim
    (λ e. subst P (same_Some new other (sym (slice_get-set_same superblocks place new within) ∙ ap (slice_get (set superblocks place new)) (sym e) ∙ there)) here)
    (λ ne. all at other (sym (slice_get-set_other superblocks place at new ne) ∙ there))
    (cases_eq at place)

pub IsSound-with : (pool : PoolState) (place : ℕ) (new : SuperblockState) → IsSound pool → place < length pool.superblocks
    → IsKept pool.units new → IsSound (with_superblock pool place new)
IsSound-with pool place new sound within kept = record {
  some = subst (λ n. 1 ≤ n) (sym (length-set pool.superblocks place new)) sound.some;
  few = subst (λ n. n ≤ 1024) (sym (length-set pool.superblocks place new)) sound.few;
  unit_count = sound.unit_count;
  kept = Each-set (IsKept pool.units) pool.superblocks place new sound.kept kept within;
}

pub IsKept_unused : (units : ℕ) → IsKept units (unused units)
IsKept_unused units = record {
  size = length-replicate units false;
  class_fits = omega arith;
  counted = sym (set_count-none units);
  inside = λ bit is_set. absurd (false≢true (same_in_replicate units false bit true is_set));
  within = omega arith;
  ever_fits = lit< tt;
  ever_counts = omega arith;
}

pub IsSound-unused : (superblocks units : ℕ) → (1 ≤ superblocks) × (superblocks ≤ 1024) → IsUnitCount units → IsSound (unused_pool superblocks units)
IsSound-unused superblocks units fits unit_count = record {
  some = omega (arith, length-replicate superblocks (unused units), fits);
  few = omega (arith, length-replicate superblocks (unused units), fits);
  unit_count = unit_count;
  kept = λ at other there. subst (IsKept units) (same_in_replicate superblocks (unused units) at other there) (IsKept_unused units);
}

-- what is read at a place is a superblock of the pool
pub kept_read : (units : ℕ) (items : List SuperblockState) (at : ℕ) (now : SuperblockState)
    → IsSound (record { units = units; superblocks = items }) → at < length items → now ≡ get_or items at now → IsKept units now
kept_read units items at now sound within read = sound.kept at now (slice_get_read items (length items) at now refl within read)
