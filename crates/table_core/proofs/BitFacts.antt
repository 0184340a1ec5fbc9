-- The bits of superblocks, where one bit of one word is set or cleared.
use Rattle.std.proofs.Common.{◌≡◌, ◌≢◌, ◌∙◌, ◌⊎◌, inl, inr, ℕ, ◌+◌, ◌*◌, ◌/◌, ◌%◌, ◌^◌, ◌<◌, Bool, true, false, cond, ◌==◌, ◌&&◌, refl, sym, ap, subst, true≢false, arith, w64}
use Rattle.std.specs.Int.{bit_at, bit_not}
use Rattle.std.specs.Int.Bits.{bit_or, bit_and, or_add_and}
use Rattle.std.proofs.lemmas.Nat.{one_shl}
use Rattle.std.proofs.lemmas.Nat.Bits.{bit_at_or, bit_at-pow_same, bit_at-pow_other, bit_at_clear_same, bit_at_clear_other, and_pow}
use Rattle.std.proofs.lemmas.Bool.{cases_eq, eqb-true, eq-eqb, and_parts, and_cases}
use Rattle.table_core.specs.Addresses.{Mem, bits, put}
use Rattle.table_core.specs.Lists.{hit}
use Rattle.table_core.specs.Pool.{bit_in}
use Rattle.table_core.proofs.PoolFacts.{cond-at, cond-apart}

-- the masks of one bit
abbrev pub one_bit : ℕ → ℕ
one_bit b = 1 * 2 ^ (b % 64) % 2 ^ 64

abbrev pub all_but : ℕ → ℕ
all_but b = bit_not w64 (one_bit b)

in_word : (b : ℕ) → b % 64 < 64
in_word b = omega arith

set_here : (n b : ℕ) → bit_at (bit_or n (one_bit b)) (b % 64) ≡ 1
set_here n b = ap (λ k. bit_at (bit_or n k) (b % 64)) (one_shl (b % 64) 64 (in_word b)) ∙ omega (arith, bit_at_or n (2 ^ (b % 64)) (b % 64), bit_at-pow_same (b % 64))

set_elsewhere : (n b i : ℕ) → i ≢ b % 64 → bit_at (bit_or n (one_bit b)) i ≡ bit_at n i
set_elsewhere n b i ne = ap (λ k. bit_at (bit_or n k) i) (one_shl (b % 64) 64 (in_word b)) ∙ omega (arith, bit_at_or n (2 ^ (b % 64)) i, bit_at-pow_other (b % 64) i ne)

-- a bit that is set already
pub set_again : (n b : ℕ) → n / 2 ^ (b % 64) % 2 ≡ 1 → bit_or n (one_bit b) ≡ n
set_again n b one =
    let k : ℕ = b % 64 in
    let both : bit_and n (2 ^ k) ≡ 2 ^ k = and_pow n k ∙ ap (λ (x : ℕ). x * 2 ^ k) one ∙ omega arith in
    ap (bit_or n) (one_shl k 64 (in_word b)) ∙ omega (arith, or_add_and n (2 ^ k), both)

clear_here : (n b : ℕ) → bit_at (bit_and n (all_but b)) (b % 64) ≡ 0
clear_here n b = bit_at_clear_same w64 n (b % 64) (in_word b)

clear_elsewhere : (n b i : ℕ) → i < 64 → i ≢ b % 64 → bit_at (bit_and n (all_but b)) i ≡ bit_at n i
clear_elsewhere n b i low ne = bit_at_clear_other w64 n (b % 64) (in_word b) i low ne

hit-one : (i b j d : ℕ) → i ≡ j → b ≡ d → hit i b j d ≡ 1
hit-one i b j d e e' = cond-at i j _ e ∙ cond-at b d 1 e'

hit-none : (i b j d : ℕ) → (i ≢ j) ⊎ (b ≢ d) → hit i b j d ≡ 0
hit-none i b j d (inl ne) = cond-apart i j _ ne
hit-none i b j d (inr ne) = by (i == j)
  where
    by : (s : Bool) → ◌≡◌ {A = ℕ} (cond s (cond (b == d) 1 0) 0) 0
    by true = cond-apart b d 1 ne
    by false = refl

module _ (m : Mem) (i b new : ℕ) where
  abbrev word : ℕ
  word = m (bits i (b / 64))

  abbrev after : Mem
  after = put m (bits i (b / 64)) new

  -- of the bits after a write, those of other words are as before
  other_word : (j d : ℕ) → ((b / 64 == d / 64) && (i == j)) ≡ false → (bit_in after j d ≡ bit_in m j d) × (hit i b j d ≡ 0)
  other_word j d apart = (
    ap (λ (s : Bool). cond s new (m (bits j (d / 64))) / 2 ^ (d % 64) % 2) apart,
    hit-none i b j d (elim (and_cases (b / 64 == d / 64) (i == j) apart) [
      | inl far ↦ inr (λ e. true≢false (sym (eq-eqb (b / 64) (d / 64) (ap (λ n. n / 64) e)) ∙ far))
      | inr far ↦ inl (λ e. true≢false (sym (eq-eqb i j e) ∙ far))
    ]),
  )

  -- and those of the word are its own
  this_word : (j d : ℕ) → ((b / 64 == d / 64) && (i == j)) ≡ true
      → (bit_in after j d ≡ bit_at new (d % 64)) × (bit_in m j d ≡ bit_at word (d % 64)) × (b / 64 ≡ d / 64) × (i ≡ j)
  this_word j d same =
      let t = and_parts (b / 64 == d / 64) (i == j) same in
      let row = eqb-true (b / 64) (d / 64) t.0 in let column = eqb-true i j t.1 in (
        ap (λ (s : Bool). cond s new (m (bits j (d / 64))) / 2 ^ (d % 64) % 2) same,
        sym (λ k. bit_at (m (bits (column k) (row k))) (d % 64)),
        row,
        column,
      )

  -- what holds between a bit and itself, and between the one bit that changed and its new value, holds of all bits of the table
  pub bits-changed : (P : ℕ → ℕ → ℕ → Type 0) → ((x : ℕ) → P x x 0) → P (bit_at word (b % 64)) (bit_at new (b % 64)) 1
      → ((k : ℕ) → k < 64 → k ≢ b % 64 → bit_at new k ≡ bit_at word k) → (j d : ℕ) → P (bit_in m j d) (bit_in after j d) (hit i b j d)
  bits-changed P same here others j d = by ((b / 64 == d / 64) && (i == j)) refl
    where
      by : (s : Bool) → ((b / 64 == d / 64) && (i == j)) ≡ s → P (bit_in m j d) (bit_in after j d) (hit i b j d)
      by false e =
          let t = other_word j d e in
          subst (λ (x : ℕ). P (bit_in m j d) x (hit i b j d)) (sym t.0) (subst (λ (x : ℕ). P (bit_in m j d) (bit_in m j d) x) (sym t.1) (same (bit_in m j d)))
      by true e = inside (cases_eq d b)
        where
          inside : (d ≡ b) ⊎ (d ≢ b) → P (bit_in m j d) (bit_in after j d) (hit i b j d)
          inside (inl at) =
              let t = this_word j d e in let low : d % 64 ≡ b % 64 = ap (λ n. n % 64) at in
              subst (λ (x : ℕ). P x (bit_in after j d) (hit i b j d)) (sym (t.1 ∙ ap (bit_at word) low))
              (subst (λ (x : ℕ). P (bit_at word (b % 64)) x (hit i b j d)) (sym (t.0 ∙ ap (bit_at new) low))
              (subst (λ (x : ℕ). P (bit_at word (b % 64)) (bit_at new (b % 64)) x) (sym (hit-one i b j d t.3 (sym at))) here))
          inside (inr ne) =
              let t = this_word j d e in
              let kept : bit_in after j d ≡ bit_in m j d = t.0 ∙ others (d % 64) (in_word d) (λ low. ne (omega (arith, low, t.2))) ∙ sym t.1 in
              subst (λ (x : ℕ). P (bit_in m j d) x (hit i b j d)) (sym kept) (subst (λ (x : ℕ). P (bit_in m j d) (bit_in m j d) x) (sym (hit-none i b j d (inr (λ x. ne (sym x))))) (same (bit_in m j d)))

-- a clear bit is set
pub bits-set : (m : Mem) (i b : ℕ) → bit_at (m (bits i (b / 64))) (b % 64) ≡ 0
    → (j d : ℕ) → bit_in (put m (bits i (b / 64)) (bit_or (m (bits i (b / 64))) (one_bit b))) j d ≡ bit_in m j d + hit i b j d
bits-set m i b clear =
    let n : ℕ = m (bits i (b / 64)) in
    bits-changed m i b (bit_or n (one_bit b)) (λ x y z. y ≡ x + z) (λ x. omega arith) (omega (arith, clear, set_here n b)) (λ k low ne. set_elsewhere n b k ne)

-- a set bit is cleared
pub bits-cleared : (m : Mem) (i b : ℕ) → bit_at (m (bits i (b / 64))) (b % 64) ≡ 1
    → (j d : ℕ) → bit_in (put m (bits i (b / 64)) (bit_and (m (bits i (b / 64))) (all_but b))) j d + hit i b j d ≡ bit_in m j d
bits-cleared m i b was =
    let n : ℕ = m (bits i (b / 64)) in
    bits-changed m i b (bit_and n (all_but b)) (λ x y z. y + z ≡ x) (λ x. omega arith) (omega (arith, was, clear_here n b)) (λ k low ne. clear_elsewhere n b k low ne)
