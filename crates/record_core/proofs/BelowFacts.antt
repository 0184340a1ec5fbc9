-- The laws of the sum over the numbers below a bound, by name.
use Rattle.std.proofs.Common.{◌≡◌, ◌≢◌, ◌∙◌, inl, inr, ℕ, zero, suc, ◌+◌, ◌-◌, ◌==◌, if◌then◌else◌, ◌≤◌, ◌<◌, refl, sym, ap, arith}
use Rattle.std.proofs.lemmas.Bool.{cases_eq, eq-eqb, ne_eqb}
use Rattle.record_core.specs.Sums.{below}
use Rattle.record_core.specs.BelowLaws.{BelowSet, BelowSetTwo, BelowSame, BelowLe, BelowBounded, BelowMember, BelowRises, BelowAppend, BelowFront, BelowPlus}

-- equal functions have equal sums
pub below-same : BelowSame
below-same f g zero each = refl
below-same f g (suc n) each = omega (arith, below-same f g n (λ k h. each k (omega (arith, h))), each n (omega arith))

-- a smaller function has a smaller sum
pub below-le : BelowLe
below-le f g zero each = omega arith
below-le f g (suc n) each = omega (arith, below-le f g n (λ k h. each k (omega (arith, h))), each n (omega arith))

-- values of at most so much sum up to at most so much times their number
pub below-bounded : BelowBounded
below-bounded f bound zero each = omega arith
below-bounded f bound (suc n) each = omega (arith, below-bounded f bound n (λ k h. each k (omega (arith, h))), each n (omega arith))

-- the functions differ at one number at most
pub below-set : BelowSet
below-set f g zero place h each = absurd (omega (arith, h))
below-set f g (suc n) place h each = elim (cases_eq place n) [
  | inl e ↦
      let same : below g n ≡ below f n = below-same g f n (λ k b. each k (omega (arith, b)) (λ d. omega (arith, b, d, e))) in
      omega (arith, same, ap f e, ap g e)
  | inr ne ↦
      omega (arith, below-set f g n place (omega (arith, h, ne)) (λ k b. each k (omega (arith, b))), each n (omega arith) (λ d. ne (sym d)))
]

-- f but for one number
abbrev put : (ℕ → ℕ) → ℕ → ℕ → ℕ → ℕ
put f place new k = if k == place then new else f k

-- the changed function at the number itself
put-same : (f : ℕ → ℕ) (place new : ℕ) → put f place new place ≡ new
put-same f place new = ap (λ b. if b then new else f place) (eq-eqb place place refl)

-- the changed function at another number
put-other : (f : ℕ → ℕ) (place new k : ℕ) → k ≢ place → put f place new k ≡ f k
put-other f place new k differ = ap (λ b. if b then new else f k) (ne_eqb k place differ)

-- the functions differ at two numbers at most
pub below-set_two : BelowSetTwo
below-set_two f g n place place' h h' differ each =
    let first : below (put f place (g place)) n + f place ≡ below f n + put f place (g place) place = below-set f (put f place (g place)) n place h (λ k b ne. put-other f place (g place) k ne) in
    let second : below g n + put f place (g place) place' ≡ below (put f place (g place)) n + g place' = below-set (put f place (g place)) g n place' h' (λ k b ne'. later k b ne') in
    omega (arith, first, second, put-same f place (g place), put-other f place (g place) place' (λ e. differ (sym e)))
  where
    later : (k : ℕ) → k < n → k ≢ place' → g k ≡ put f place (g place) k
    later k b ne' = elim (cases_eq k place) [
      | inl e ↦ ap g e ∙ sym (put-same f place (g place)) ∙ ap (put f place (g place)) (sym e)
      | inr ne ↦ each k b ne ne' ∙ sym (put-other f place (g place) k ne)
    ]

-- the numbers below one bound, and then those from it on
pub below-append : BelowAppend
below-append f n zero =
    let step : below f (n + 0) ≡ below f n = let e : n + 0 ≡ n = omega arith in ap (below f) e in omega (arith, step)
below-append f n (suc m) =
    let step : below f (n + suc m) ≡ below f (n + m) + f (n + m) = let e : n + suc m ≡ suc (n + m) = omega arith in ap (below f) e in
    omega (arith, step, below-append f n m)

-- a higher bound has a higher sum
pub below-rises : BelowRises
below-rises f n m h =
    let whole : below f (n + (m - n)) ≡ below f m = let e : n + (m - n) ≡ m = omega (arith, h) in ap (below f) e in
    omega (arith, whole, below-append f n (m - n))

-- no value is above the sum
pub below-member : BelowMember
below-member f n place h =
    let up_to : below f (suc place) ≤ below f n = below-rises f (suc place) n (omega (arith, h)) in omega (arith, up_to)

-- the sum of sums
pub below-plus : BelowPlus
below-plus f g zero = refl
below-plus f g (suc n) = omega (arith, below-plus f g n)

-- the first number by itself
pub below-front : BelowFront
below-front f zero = omega arith
below-front f (suc n) = omega (arith, below-front f n)
