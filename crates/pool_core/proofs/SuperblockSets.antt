-- Sets of superblocks as bits of words.
use Rattle.std.proofs.Common.{◌≡◌, ℕ, ◌+◌, ◌*◌, ◌/◌, ◌%◌, ◌<◌, ◌≤◌, Bool, true, false, List, ◌==◌, Some, slice_get, get_or, sym, ◌∙◌, ap, subst, ⊎_elim, arith}
use Rattle.std.specs.Int.{bit_at}
use Rattle.std.proofs.lemmas.Bool.{cases_lt, false≢true}
use Rattle.std.proofs.lemmas.Nat.Bits.{bit_at-zero}
use Rattle.std.proofs.lemmas.Option.{same_Some, slice_get_within}
use Rattle.claim_core.specs.Bits.{is_one, first_bits}
use Rattle.claim_core.specs.Claims.{IsSet}
use Rattle.claim_core.proofs.FirstBits.{length-first_bits, slice_get-first_bits, first_bits-none}
use Rattle.pool_core.specs.Vacancies.{IsFirstSet, IsNoneSet}
use Rattle.pool_core.proofs.Sound.{same_in_replicate}

-- a bit that is set is one of the words' bits
is_one_of : (n : ℕ) (words : List ℕ) (at : ℕ) → IsSet (first_bits n words) at → (at < n) × (is_one words at ≡ true)
is_one_of n words at is_set =
    let within : at < n = omega (arith, slice_get_within (first_bits n words) at true is_set, length-first_bits n words) in
    (within, same_Some (is_one words at) true (sym (slice_get-first_bits n words at within) ∙ is_set))

-- words of zeros have no bit that is set
pub none_set : (n : ℕ) (words : List ℕ) → ((at : ℕ) → get_or words at 0 ≡ 0) → IsNoneSet (first_bits n words)
none_set n words zeros at is_set =
    false≢true (same_in_replicate n false at true (subst (λ bits. slice_get bits at ≡ Some true) (first_bits-none n words zeros) is_set))

-- a word of zeros
pub is_one_empty : (words : List ℕ) (at bit : ℕ) → get_or words at 0 ≡ 0 → bit / 64 ≡ at → is_one words bit ≡ false
is_one_empty words at bit empty e =
    ap (λ w. bit_at w (bit % 64) == 1) (ap (λ k. get_or words k 0) e ∙ empty) ∙ ap (λ x. x == 1) (bit_at-zero (bit % 64))

-- where the lowest one of a word stands among all bits, and what stands below it
is_one_first : (words : List ℕ) (at passed low : ℕ) → passed ≡ 64 * at → low < 64 → bit_at (get_or words at 0) low ≡ 1
    → is_one words (passed + low) ≡ true
is_one_first words at passed low e within one =
    let word : (passed + low) / 64 ≡ at = omega arith in
    let place : (passed + low) % 64 ≡ low = omega arith in
    ap (λ k. bit_at (get_or words k 0) ((passed + low) % 64) == 1) word
    ∙ ap (λ k. bit_at (get_or words at 0) k == 1) place ∙ ap (λ x. x == 1) one

is_one_before_first : (words : List ℕ) (at passed low : ℕ) → passed ≡ 64 * at → low < 64
    → ((i : ℕ) → i < low → bit_at (get_or words at 0) i ≡ 0)
    → (bit : ℕ) → passed ≤ bit → bit < passed + low → is_one words bit ≡ false
is_one_before_first words at passed low e within below bit from before =
    let word : bit / 64 ≡ at = omega arith in
    ap (λ k. bit_at (get_or words k 0) (bit % 64) == 1) word ∙ ap (λ x. x == 1) (below (bit % 64) (omega arith))

-- no bit below this one is set
abbrev pub NoneBelow : List ℕ → ℕ → Type 0
NoneBelow words high = (bit : ℕ) → bit < high → is_one words bit ≡ false

pub first_is : (n : ℕ) (words : List ℕ) (at passed low : ℕ) → passed ≡ 64 * at → low < 64 → passed + low < n
    → bit_at (get_or words at 0) low ≡ 1 → ((i : ℕ) → i < low → bit_at (get_or words at 0) i ≡ 0) → NoneBelow words passed
    → IsFirstSet (first_bits n words) (passed + low)
first_is n words at passed low e within below_n one below none = record {
  is_set = slice_get-first_bits n words (passed + low) below_n ∙ ap (λ b. Some b) (is_one_first words at passed low e within one);
  before = λ other before is_set.
      false≢true (sym (⊎_elim (none other) (λ from. is_one_before_first words at passed low e within below other from before) (cases_lt other passed))
      ∙ (is_one_of n words other is_set).1);
}

pub none_is : (n : ℕ) (words : List ℕ) (passed : ℕ) → n ≤ passed → NoneBelow words passed → IsNoneSet (first_bits n words)
none_is n words passed all none at is_set =
    let one = is_one_of n words at is_set in
    false≢true (sym (none at (omega (arith, one.0))) ∙ one.1)

-- a set with a first is not empty
pub first_excludes_none : (bits : List Bool) (at : ℕ) → IsFirstSet bits at → IsNoneSet bits → ⊥
first_excludes_none bits at first none = none at first.is_set
