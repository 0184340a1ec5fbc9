-- The first bits of words, after a write to one word.
use Rattle.std.proofs.Common.{◌≡◌, ◌≢◌, ℕ, ◌+◌, ◌-◌, ◌*◌, ◌^◌, ◌/◌, ◌%◌, ◌<◌, ◌≤◌, Bool, true, false, List, ◌==◌, length, refl, sym, ◌∙◌, ap, arith, Some, zero, suc, Fits, slice_get, replicate, set, get_or, ◌⊎◌, inl, inr, get_or-set_same, get_or-set_other, length-set}
use Rattle.std.specs.Int.{bit_at, trailing_ones, w64}
use Rattle.std.proofs.lemmas.List.{get_or-replicate, length-replicate}
use Rattle.std.proofs.lemmas.List.FromFn.{length-map-range_with_len, get_or-map-range_with_len, fill_by_all}
use Rattle.std.proofs.lemmas.Nat.Bits.{bit_at-zero, bit_at_ones, bit_at-trailing_ones}
use Rattle.std.proofs.lemmas.Bool.{cases_eq}
use Rattle.std.proofs.lemmas.Option.{slice_get-get_or}
use Rattle.std.proofs.lemmas.Grind.{get_or-set_at}
use Rattle.claim_core.specs.Bits.{is_one, first_bits}

pub length-first_bits : (n : ℕ) (words : List ℕ) → length (first_bits n words) ≡ n
unfolding first_bits
length-first_bits n words = length-map-range_with_len (is_one words) 0 n

pub get_or-first_bits : (n : ℕ) (words : List ℕ) (bit : ℕ) (d : Bool) → bit < n → get_or (first_bits n words) bit d ≡ is_one words bit
unfolding first_bits
get_or-first_bits n words bit d within = get_or-map-range_with_len (is_one words) 0 n bit bit d within (omega arith)

pub slice_get-first_bits : (n : ℕ) (words : List ℕ) (bit : ℕ) → bit < n → slice_get (first_bits n words) bit ≡ Some (is_one words bit)
slice_get-first_bits n words bit within =
    slice_get-get_or (first_bits n words) bit false (omega (arith, within, length-first_bits n words))
    ∙ ap (λ b. Some b) (get_or-first_bits n words bit false within)

-- what has these bits in this order is the first bits
pub first_bits_are : (n : ℕ) (words : List ℕ) (bits : List Bool) → length bits ≡ n → ((bit : ℕ) → bit < n → get_or bits bit false ≡ is_one words bit) → bits ≡ first_bits n words
unfolding first_bits
first_bits_are n words bits len same = fill_by_all (is_one words) bits n false len same

pub get_or-zeros : (n at : ℕ) → ◌≡◌ {A = ℕ} (get_or (replicate n 0) at 0) 0
get_or-zeros zero at = refl
get_or-zeros (suc n) zero = refl
get_or-zeros (suc n) (suc at) = get_or-zeros n at

pub first_bits-none : (n : ℕ) (words : List ℕ) → ((at : ℕ) → get_or words at 0 ≡ 0) → first_bits n words ≡ replicate n false
first_bits-none n words zeros =
    sym (first_bits_are n words (replicate n false) (length-replicate n false)
    (λ bit within. get_or-replicate n bit false false within
    ∙ sym (ap (λ w. bit_at w (bit % 64) == 1) (zeros (bit / 64)) ∙ ap (λ b. b == 1) (bit_at-zero (bit % 64)))))

-- a word is written, in which only one bit may change: that bit, and any other
is_one_here : (words : List ℕ) (bit word : ℕ) (b : Bool) → bit / 64 < length words → (bit_at word (bit % 64) == 1) ≡ b
    → is_one (set words (bit / 64) word) bit ≡ b
is_one_here words bit word b within here =
    ap (λ w. bit_at w (bit % 64) == 1) (get_or-set_same words (bit / 64) word 0 within) ∙ here

is_one_elsewhere : (words : List ℕ) (bit word : ℕ) → bit / 64 < length words
    → ((i : ℕ) → i < 64 → i ≢ bit % 64 → bit_at word i ≡ bit_at (get_or words (bit / 64) 0) i)
    → (i : ℕ) → i ≢ bit → (i / 64 ≡ bit / 64) ⊎ (i / 64 ≢ bit / 64) → is_one (set words (bit / 64) word) i ≡ is_one words i
is_one_elsewhere words bit word within others i ne (inl e) =
    ap (λ w. bit_at w (i % 64) == 1) (get_or-set_at words (bit / 64) (i / 64) word 0 e within)
    ∙ ap (λ x. x == 1) (others (i % 64) (omega arith) (λ same. ne (omega arith)) ∙ ap (λ at. bit_at (get_or words at 0) (i % 64)) (sym e))
is_one_elsewhere words bit word within others i ne (inr far) =
    ap (λ w. bit_at w (i % 64) == 1) (get_or-set_other words (bit / 64) (i / 64) word 0 far)

first_bit_written : (words : List ℕ) (bit word : ℕ) (b : Bool) → bit / 64 < length words
    → (bit_at word (bit % 64) == 1) ≡ b
    → ((i : ℕ) → i < 64 → i ≢ bit % 64 → bit_at word i ≡ bit_at (get_or words (bit / 64) 0) i)
    → (n i : ℕ) → i < n → (i ≡ bit) ⊎ (i ≢ bit)
    → get_or (set (first_bits n words) bit b) i false ≡ is_one (set words (bit / 64) word) i
first_bit_written words bit word b within here others n i below (inl e) =
    get_or-set_at (first_bits n words) bit i b false e (omega (arith, below, e, length-first_bits n words))
    ∙ sym (is_one_here words bit word b within here) ∙ ap (is_one (set words (bit / 64) word)) (sym e)
first_bit_written words bit word b within here others n i below (inr ne) =
    get_or-set_other (first_bits n words) bit i b false ne ∙ get_or-first_bits n words i false below
    ∙ sym (is_one_elsewhere words bit word within others i ne (cases_eq (i / 64) (bit / 64)))

-- a word is written, in which only one bit may change
pub first_bits_written : (words : List ℕ) (bit word : ℕ) (b : Bool) → bit / 64 < length words
    → (bit_at word (bit % 64) == 1) ≡ b
    → ((i : ℕ) → i < 64 → i ≢ bit % 64 → bit_at word i ≡ bit_at (get_or words (bit / 64) 0) i)
    → (n : ℕ) → first_bits n (set words (bit / 64) word) ≡ set (first_bits n words) bit b
first_bits_written words bit word b within here others n =
    sym (first_bits_are n (set words (bit / 64) word) (set (first_bits n words) bit b)
    (length-set (first_bits n words) bit b ∙ length-first_bits n words)
    (λ i below. first_bit_written words bit word b within here others n i below (cases_eq i bit)))

-- a word whose bits are all set
pub is_one_full : (words : List ℕ) (at bit : ℕ) → get_or words at 0 ≡ 2 ^ 64 - 1 → bit / 64 ≡ at → is_one words bit ≡ true
is_one_full words at bit full e =
    ap (λ w. bit_at w (bit % 64) == 1) (ap (λ k. get_or words k 0) e ∙ full)
    ∙ ap (λ x. x == 1) (bit_at_ones 64 (bit % 64) (omega arith))

-- where the lowest clear bit of a word stands among all
pub is_one_lowest : (words : List ℕ) (at passed low : ℕ) → passed ≡ 64 * at → low < 64 → bit_at (get_or words at 0) low ≡ 0
    → is_one words (passed + low) ≡ false
is_one_lowest words at passed low e within clear =
    let word : (passed + low) / 64 ≡ at = omega arith in
    let place : (passed + low) % 64 ≡ low = omega arith in
    ap (λ k. bit_at (get_or words k 0) ((passed + low) % 64) == 1) word
    ∙ ap (λ k. bit_at (get_or words at 0) k == 1) place ∙ ap (λ x. x == 1) clear

pub is_one_below_lowest : (words : List ℕ) (at passed low : ℕ) → passed ≡ 64 * at → low < 64
    → ((i : ℕ) → i < low → bit_at (get_or words at 0) i ≡ 1)
    → (bit : ℕ) → passed ≤ bit → bit < passed + low → is_one words bit ≡ true
is_one_below_lowest words at passed low e within below bit from before =
    let word : bit / 64 ≡ at = omega arith in
    ap (λ k. bit_at (get_or words k 0) (bit % 64) == 1) word ∙ ap (λ x. x == 1) (below (bit % 64) (omega arith))

-- the ones below the lowest zero of a word
pub lowest_zero_clear : (n low : ℕ) → low ≡ trailing_ones w64 n → Fits w64 n → n ≢ 2 ^ 64 - 1 → bit_at n low ≡ 0
lowest_zero_clear n low e fits not_full = rw e (bit_at-trailing_ones w64 n (omega arith)).1

pub lowest_zero_below : (n low : ℕ) → low ≡ trailing_ones w64 n → Fits w64 n → n ≢ 2 ^ 64 - 1 → (bit : ℕ) → bit < low → bit_at n bit ≡ 1
lowest_zero_below n low e fits not_full bit below = (bit_at-trailing_ones w64 n (omega arith)).2 bit (omega (arith, e))

pub ruleset lowest_zero = (lowest_zero_clear, lowest_zero_below)
