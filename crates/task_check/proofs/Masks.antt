-- Sets as masks: what a word's bits say after each change.
use Rattle.std.proofs.Common.{◌≡◌, ◌≢◌, ℕ, zero, suc, ◌*◌, ◌/◌, ◌%◌, ◌^◌, ◌<◌, Bool, false, not, ◌&&◌, ◌||◌, nat_eq, min, max, List, length, set, get_or, refl, sym, ◌∙◌, ap, inl, inr, arith, w64, eq-eqb}
use Rattle.std.proofs.lemmas.List.{get_or-set_other}
use Rattle.std.proofs.lemmas.Grind.{get_or-set_at}
use Rattle.std.proofs.Math.ListN.{get_or-eq_default}
use Rattle.std.proofs.lemmas.Bool.{cases_eq, cases_lt}
use Rattle.std.proofs.lemmas.Bool.Decides.{nat_tests}
use Rattle.std.proofs.lemmas.Nat.Bits.{bit_at_or, bit_at_and, bit_at-lt, bit_at_set_same, bit_at_set_other, bit_at_clear_same, bit_at_clear_other}
use Rattle.std.specs.Prelude.{bit_and, bit_or}
use Rattle.std.specs.Int.{bit_at, bit_not}

-- a position is in the set of a mask
abbrev pub in_words : ℕ → List ℕ → Bool
in_words x words = nat_eq (bit_at (get_or words (x / 64) 0) (x % 64)) 1

-- different numbers do not pass the test
pub not_eq : (a b : ℕ) → a ≢ b → nat_eq a b ≡ false
not_eq a b n = grind (arith, nat_tests)

-- what a changed word says of the positions of another word, and of its own
in_other : (words : List ℕ) (i v x : ℕ) → x / 64 ≢ i → in_words x (set words i v) ≡ in_words x words
in_other words i v x n = ap (λ w. nat_eq (bit_at w (x % 64)) 1) (get_or-set_other words i (x / 64) v 0 n)

in_same : (words : List ℕ) (i v x : ℕ) → i < length words → x / 64 ≡ i → in_words x (set words i v) ≡ nat_eq (bit_at v (x % 64)) 1
in_same words i v x h e = ap (λ w. nat_eq (bit_at w (x % 64)) 1) (get_or-set_at words i (x / 64) v 0 e h)

module _ (words : List ℕ) (position : ℕ) (long : length words ≡ 4) (small : position < 256) where
  -- a mask with one more position
  pub in_words-with : (x : ℕ) → in_words x (set words (position / 64) (bit_or (get_or words (position / 64) 0) (1 * 2 ^ (position % 64) % 2 ^ 64))) ≡ (nat_eq x position || in_words x words)
  in_words-with x =
      let word : ℕ = bit_or (get_or words (position / 64) 0) (1 * 2 ^ (position % 64) % 2 ^ 64) in
      let within : position % 64 < 64 = omega arith in
      elim (cases_eq x position) [
        | inl same ↦
            let e : x / 64 ≡ position / 64 = omega arith in
            let r : x % 64 ≡ position % 64 = omega arith in
            in_same words (position / 64) word x (omega arith) e
            ∙ (ap (λ k. nat_eq (bit_at word k) 1) r ∙ (ap (λ v. nat_eq v 1) (bit_at_set_same w64 (get_or words (position / 64) 0) (position % 64) within)
            ∙ sym (ap (λ b. b || in_words x words) (eq-eqb x position same))))
        | inr other ↦ elim (cases_eq (x / 64) (position / 64)) [
          | inl e ↦
              let r : x % 64 ≢ position % 64 = omega arith in
              in_same words (position / 64) word x (omega arith) e
              ∙ (ap (λ v. nat_eq v 1) (bit_at_set_other w64 (get_or words (position / 64) 0) (position % 64) within (x % 64) r)
              ∙ (ap (λ i. nat_eq (bit_at (get_or words i 0) (x % 64)) 1) (sym e) ∙ sym (ap (λ b. b || in_words x words) (not_eq x position other))))
          | inr n ↦ in_other words (position / 64) word x n ∙ sym (ap (λ b. b || in_words x words) (not_eq x position other))
        ]
      ]

  -- a mask with one position less
  pub in_words-without : (x : ℕ) → in_words x (set words (position / 64) (bit_and (get_or words (position / 64) 0) (bit_not w64 (1 * 2 ^ (position % 64) % 2 ^ 64)))) ≡ (not (nat_eq position x) && in_words x words)
  in_words-without x =
      let word : ℕ = bit_and (get_or words (position / 64) 0) (bit_not w64 (1 * 2 ^ (position % 64) % 2 ^ 64)) in
      let within : position % 64 < 64 = omega arith in
      elim (cases_eq position x) [
        | inl same ↦
            let e : x / 64 ≡ position / 64 = omega arith in
            let r : x % 64 ≡ position % 64 = omega arith in
            in_same words (position / 64) word x (omega arith) e
            ∙ (ap (λ k. nat_eq (bit_at word k) 1) r ∙ (ap (λ v. nat_eq v 1) (bit_at_clear_same w64 (get_or words (position / 64) 0) (position % 64) within)
            ∙ sym (ap (λ b. not b && in_words x words) (eq-eqb position x same))))
        | inr other ↦ elim (cases_eq (x / 64) (position / 64)) [
          | inl e ↦
              let r : x % 64 ≢ position % 64 = omega arith in
              let low : x % 64 < 64 = omega arith in
              in_same words (position / 64) word x (omega arith) e
              ∙ (ap (λ v. nat_eq v 1) (bit_at_clear_other w64 (get_or words (position / 64) 0) (position % 64) within (x % 64) low r)
              ∙ (ap (λ i. nat_eq (bit_at (get_or words i 0) (x % 64)) 1) (sym e) ∙ sym (ap (λ b. not b && in_words x words) (not_eq position x other))))
          | inr n ↦ in_other words (position / 64) word x n ∙ sym (ap (λ b. not b && in_words x words) (not_eq position x other))
        ]
      ]

-- the bits of words that are combined one by one
min_is : (p q : ℕ) → p < 2 → q < 2 → nat_eq (min p q) 1 ≡ (nat_eq p 1 && nat_eq q 1)
min_is zero zero h k = refl
min_is zero (suc zero) h k = refl
min_is (suc zero) zero h k = refl
min_is (suc zero) (suc zero) h k = refl
min_is zero (suc (suc q)) h k = absurd (omega arith)
min_is (suc zero) (suc (suc q)) h k = absurd (omega arith)
min_is (suc (suc p)) q h k = absurd (omega arith)

max_is : (p q : ℕ) → p < 2 → q < 2 → nat_eq (max p q) 1 ≡ (nat_eq p 1 || nat_eq q 1)
max_is zero zero h k = refl
max_is zero (suc zero) h k = refl
max_is (suc zero) zero h k = refl
max_is (suc zero) (suc zero) h k = refl
max_is zero (suc (suc q)) h k = absurd (omega arith)
max_is (suc zero) (suc (suc q)) h k = absurd (omega arith)
max_is (suc (suc p)) q h k = absurd (omega arith)

module _ (f : ℕ → ℕ → ℕ) (empty : f 0 0 ≡ 0) (a b c : List ℕ) (length_a : length a ≡ 4) (length_b : length b ≡ 4) (length_c : length c ≡ 4) where
  each_word : ((k : ℕ) → k < 4 → get_or c k 0 ≡ f (get_or a k 0) (get_or b k 0)) → (k : ℕ) → get_or c k 0 ≡ f (get_or a k 0) (get_or b k 0)
  each_word each k = elim (cases_lt k 4) [
    | inl h ↦ each k h
    | inr h ↦ get_or-eq_default c 0 (omega arith) ∙ (sym empty
        ∙ (ap (λ v. f v 0) (sym (get_or-eq_default a 0 (omega arith))) ∙ ap (λ v. f (get_or a k 0) v) (sym (get_or-eq_default b 0 (omega arith)))))
  ]

-- the mask of what two sets share
pub in_words-and : (a b c : List ℕ) → length a ≡ 4 → length b ≡ 4 → length c ≡ 4 → ((k : ℕ) → k < 4 → get_or c k 0 ≡ bit_and (get_or a k 0) (get_or b k 0)) → (x : ℕ) → in_words x c ≡ (in_words x a && in_words x b)
in_words-and a b c la lb lc each x =
    ap (λ w. nat_eq (bit_at w (x % 64)) 1) (each_word bit_and refl a b c la lb lc each (x / 64))
    ∙ (ap (λ v. nat_eq v 1) (bit_at_and (get_or a (x / 64) 0) (get_or b (x / 64) 0) (x % 64))
    ∙ min_is (bit_at (get_or a (x / 64) 0) (x % 64)) (bit_at (get_or b (x / 64) 0) (x % 64)) (bit_at-lt _ _) (bit_at-lt _ _))

-- the mask of what two sets have together
pub in_words-or : (a b c : List ℕ) → length a ≡ 4 → length b ≡ 4 → length c ≡ 4 → ((k : ℕ) → k < 4 → get_or c k 0 ≡ bit_or (get_or a k 0) (get_or b k 0)) → (x : ℕ) → in_words x c ≡ (in_words x a || in_words x b)
in_words-or a b c la lb lc each x =
    ap (λ w. nat_eq (bit_at w (x % 64)) 1) (each_word bit_or refl a b c la lb lc each (x / 64))
    ∙ (ap (λ v. nat_eq v 1) (bit_at_or (get_or a (x / 64) 0) (get_or b (x / 64) 0) (x % 64))
    ∙ max_is (bit_at (get_or a (x / 64) 0) (x % 64)) (bit_at (get_or b (x / 64) 0) (x % 64)) (bit_at-lt _ _) (bit_at-lt _ _))
