-- What every superblock keeps, when a block is given or taken back.
use Rattle.std.proofs.Common.{◌≡◌, ◌≢◌, ◌⊎◌, ℕ, ◌<◌, ◌≤◌, Bool, true, false, List, length, slice_get, set, sym, ◌∙◌, ap, subst, ⊎_elim, arith, length-set}
use Rattle.std.proofs.lemmas.Bool.{cases_eq}
use Rattle.std.proofs.lemmas.Option.{same_Some, slice_get_within}
use Rattle.claim_core.specs.Claims.{set_count, IsSet, IsClear}
use Rattle.claim_core.proofs.Counted.{set_count_claimed, set_count_cleared}
use Rattle.kt_words.specs.Capacity.{capacity}
use Rattle.pool_core.specs.Superblocks.{SuperblockState, given, taken_back, IsEmpty, IsKept}
use Rattle.pool_core.proofs.Places.{slice_get-set_same, slice_get-set_other}

pub set_count_some : (bits : List Bool) (bit : ℕ) → IsSet bits bit → 0 < set_count bits
set_count_some bits bit is_set = omega (arith, set_count_cleared bits bit is_set)

-- a bit that is set after another was set
pub IsSet_claimed : (bits : List Bool) (bit other : ℕ) → IsSet (set bits bit true) other → other ≢ bit → IsSet bits other
IsSet_claimed bits bit other is_set ne = sym (slice_get-set_other bits bit other true ne) ∙ is_set

pub IsSet_cleared : (bits : List Bool) (bit other : ℕ) → bit < length bits → IsSet (set bits bit false) other → (other ≢ bit) × IsSet bits other
IsSet_cleared bits bit other within is_set =
    ⊎_elim (λ e. absurd (cc_no e)) (λ ne. (ne, sym (slice_get-set_other bits bit other false ne) ∙ is_set)) (cases_eq other bit)
  where
    cc_no : other ≡ bit → ⊥
    cc_no e =
        let no : false ≡ true = same_Some false true (sym (slice_get-set_same bits bit false within) ∙ ap (slice_get (set bits bit false)) (sym e) ∙ is_set) in
        cc

-- all blocks that are out are of the class that is given, or none is out
pub IsKept_given : (units class bit : ℕ) (was : SuperblockState) → IsKept units was → class ≤ 3
    → (was.class ≡ class) ⊎ IsEmpty was → was.count < capacity units class → capacity units class ≤ 512 → IsClear was.set bit → bit < capacity units class
    → IsKept units (given was class bit)
IsKept_given units class bit was kept fits of_class room few clear below = record {
  size = length-set was.set bit true ∙ kept.size;
  class_fits = fits;
  counted = omega (arith, kept.counted, set_count_claimed was.set bit clear);
  inside = inside;
  within = omega (arith, room);
  ever_fits = omega (arith, kept.ever_fits);
  ever_counts = omega (arith, kept.ever_counts, room, few);
}
  where
    inside : (other : ℕ) → IsSet (set was.set bit true) other → other < capacity units class
    inside other is_set = ⊎_elim (λ e. subst (λ k. k < capacity units class) (sym e) below)
        (λ ne. ⊎_elim
        (λ same. subst (λ k. other < capacity units k) same (kept.inside other (IsSet_claimed was.set bit other is_set ne)))
        (λ empty. absurd (omega (arith, empty, kept.counted, set_count_some was.set other (IsSet_claimed was.set bit other is_set ne))))
        of_class)
        (cases_eq other bit)

pub IsKept_taken_back : (units bit : ℕ) (was : SuperblockState) → IsKept units was → IsSet was.set bit → IsKept units (taken_back was bit)
IsKept_taken_back units bit was kept is_set = record {
  size = length-set was.set bit false ∙ kept.size;
  class_fits = kept.class_fits;
  counted = omega (arith, kept.counted, set_count_cleared was.set bit is_set);
  inside = λ other still. kept.inside other (IsSet_cleared was.set bit other (slice_get_within was.set bit true is_set) still).1;
  within = omega (arith, kept.within);
  ever_fits = kept.ever_fits;
  ever_counts = omega (arith, kept.ever_counts);
}
