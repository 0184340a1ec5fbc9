-- The lowest clear bit of words, where fewer of the first bits are set than are reserved.
use Rattle.std.proofs.Common.{◌≡◌, ℕ, ◌<◌, ◌≤◌, true, false, Some, List, ◌∙◌, ap, ⊎_elim, arith}
use Rattle.std.proofs.lemmas.Bool.{cases_lt}
use Rattle.claim_core.specs.Bits.{is_one, first_bits}
use Rattle.claim_core.specs.Claims.{set_count, IsLowestClear}
use Rattle.claim_core.proofs.Counted.{le-set_count}
use Rattle.claim_core.proofs.FirstBits.{slice_get-first_bits}

pub lowest-lt : (n count bit : ℕ) (words : List ℕ) → count ≤ n → set_count (first_bits n words) < count
    → ((k : ℕ) → k < bit → is_one words k ≡ true) → bit < count
lowest-lt n count bit words most fewer below = ⊎_elim (λ lt. lt) (λ le. absurd (omega (arith, fewer, all_set le))) (cases_lt bit count)
  where
    all_set : count ≤ bit → count ≤ set_count (first_bits n words)
    all_set le = le-set_count (first_bits n words) count
        (λ k lt. slice_get-first_bits n words k (omega arith) ∙ ap (λ b. Some b) (below k (omega arith)))

pub IsLowestClear-first_bits : (n bit : ℕ) (words : List ℕ) → bit < n → is_one words bit ≡ false
    → ((k : ℕ) → k < bit → is_one words k ≡ true) → IsLowestClear (first_bits n words) bit
IsLowestClear-first_bits n bit words within clear below = record {
  clear = slice_get-first_bits n words bit within ∙ ap (λ b. Some b) clear;
  below = λ k lt. slice_get-first_bits n words k (omega arith) ∙ ap (λ b. Some b) (below k lt);
}
