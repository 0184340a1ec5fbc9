-- How many bits are set, after a change to one of them.
use Rattle.std.proofs.Common.{◌≡◌, ℕ, zero, suc, ◌+◌, ◌<◌, ◌≤◌, Bool, true, false, cond, List, [], ◌∷◌, refl, ap, arith, replicate, get_or, set}
use Rattle.std.proofs.lemmas.List.Sums.{sum_by-set, sum_by-cons}
use Rattle.std.proofs.lemmas.Option.{slice_get_within, get_or_from_slice_get, none-some, same_Some}
use Rattle.claim_core.specs.Claims.{set_count, IsSet, IsClear}

pub set_count-cons : (bit : Bool) (bits : List Bool) → set_count (bit ∷ bits) ≡ cond bit 1 0 + set_count bits
set_count-cons bit bits = sum_by-cons (λ x. cond x 1 0) bit bits

-- one more where a bit that was clear is set
pub set_count_claimed : (bits : List Bool) (bit : ℕ) → IsClear bits bit → set_count (set bits bit true) ≡ set_count bits + 1
set_count_claimed bits bit clear =
    let changed = sum_by-set (λ x. cond x 1 0) bits bit true false (slice_get_within bits bit false clear) in
    let was : ◌≡◌ {A = ℕ} (cond (get_or bits bit false) 1 0) 0 = ap (λ x. cond x 1 0) (get_or_from_slice_get bits bit false false clear) in
    omega (arith, changed, was)

-- one less where a bit that was set is cleared
pub set_count_cleared : (bits : List Bool) (bit : ℕ) → IsSet bits bit → set_count (set bits bit false) + 1 ≡ set_count bits
set_count_cleared bits bit is_set =
    let changed = sum_by-set (λ x. cond x 1 0) bits bit false false (slice_get_within bits bit true is_set) in
    let was : ◌≡◌ {A = ℕ} (cond (get_or bits bit false) 1 0) 1 = ap (λ x. cond x 1 0) (get_or_from_slice_get bits bit true false is_set) in
    omega (arith, changed, was)

-- where the first n are set, n are set
pub le-set_count : (bits : List Bool) (n : ℕ) → ((bit : ℕ) → bit < n → IsSet bits bit) → n ≤ set_count bits
le-set_count bits zero all = omega arith
le-set_count [] (suc n) all = absurd (none-some true (all 0 (omega arith)))
le-set_count (bit ∷ bits) (suc n) all =
    let first : ◌≡◌ {A = ℕ} (cond bit 1 0) 1 = ap (λ x. cond x 1 0) (same_Some bit true (all 0 (omega arith))) in
    let rest = le-set_count bits n (λ k h. all (suc k) (omega arith)) in
    omega (arith, set_count-cons bit bits, first, rest)

pub set_count-none : (n : ℕ) → set_count (replicate n false) ≡ 0
set_count-none zero = refl
set_count-none (suc n) = omega (arith, set_count-cons false (replicate n false), set_count-none n)
