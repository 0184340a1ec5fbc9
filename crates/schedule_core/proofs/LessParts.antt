-- Lists of which some members are taken away: in which order does not matter.
use Rattle.std.proofs.Common.{◌≡◌, ◌∙◌, ℕ, ◌+◌, ◌≤◌, ◌==◌, Bool, true, false, cond, List, [], ◌∷◌, ◌++◌, length, refl, sym, ap, arith}
use Rattle.std.proofs.lemmas.Bool.{eqb-true, eq-eqb}
use Rattle.record_core.specs.Counting.{times, dropped, one_if}
use Rattle.table_core.specs.RecordViews.{is_at}
use Rattle.table_core.proofs.BagFacts.{times-dropped, one-here}
use Rattle.schedule_rule.specs.PlacingViews.{less}

-- a list that has nothing is empty
nothing-there : (l : List ℕ) → ((w : ℕ) → times w l ≡ 0) → l ≡ []
nothing-there [] none = refl
nothing-there (x ∷ l) none = absurd (omega (arith, none x, one-here x))

-- two members are taken away in either order
pub dropped-swap : (x y : ℕ) (l : List ℕ) → dropped (is_at x) (dropped (is_at y) l) ≡ dropped (is_at y) (dropped (is_at x) l)
dropped-swap x y [] = refl
dropped-swap x y (z ∷ l) = by (z == x) refl (z == y) refl (dropped-swap x y l)
  where
    by : (b : Bool) → (z == x) ≡ b → (c : Bool) → (z == y) ≡ c → dropped (is_at x) (dropped (is_at y) l) ≡ dropped (is_at y) (dropped (is_at x) l)
        → dropped (is_at x) (cond c l (z ∷ dropped (is_at y) l)) ≡ dropped (is_at y) (cond b l (z ∷ dropped (is_at x) l))
    by true e true f deeper = ap (λ (w : ℕ). dropped (is_at w) l) (sym (eqb-true z x e) ∙ eqb-true z y f)
    by true e false f deeper = ap (λ (b : Bool). cond b (dropped (is_at y) l) (z ∷ dropped (is_at x) (dropped (is_at y) l))) e
    by false e true f deeper = sym (ap (λ (c : Bool). cond c (dropped (is_at x) l) (z ∷ dropped (is_at y) (dropped (is_at x) l))) f)
    by false e false f deeper =
        ap (λ (b : Bool). cond b (dropped (is_at y) l) (z ∷ dropped (is_at x) (dropped (is_at y) l))) e
        ∙ ap (λ (k : List ℕ). z ∷ k) deeper
        ∙ sym (ap (λ (c : Bool). cond c (dropped (is_at x) l) (z ∷ dropped (is_at y) (dropped (is_at x) l))) f)

-- one before others, or after them
pub less-dropped : (x : ℕ) (l xs : List ℕ) → less (dropped (is_at x) l) xs ≡ dropped (is_at x) (less l xs)
less-dropped x l [] = refl
less-dropped x l (y ∷ xs) = ap (λ (k : List ℕ). less k xs) (dropped-swap y x l) ∙ less-dropped x (dropped (is_at y) l) xs

-- one that was added in front is taken away afterwards
pub less-added : (x : ℕ) (l xs : List ℕ) → dropped (is_at x) (less (x ∷ l) xs) ≡ less l xs
less-added x l xs = sym (less-dropped x (x ∷ l) xs) ∙ ap (λ (b : Bool). less (cond b l (x ∷ dropped (is_at x) l)) xs) (eq-eqb x x refl)

-- a member is taken away first
pub less-member : (x : ℕ) (l ys : List ℕ) → 1 ≤ times x ys → less l ys ≡ less (dropped (is_at x) l) (dropped (is_at x) ys)
less-member x l [] there = absurd (omega (arith, there))
less-member x l (y ∷ ys) there = by (y == x) refl (λ deeper. less-member x (dropped (is_at y) l) ys deeper)
  where
    by : (b : Bool) → (y == x) ≡ b → (1 ≤ times x ys → less (dropped (is_at y) l) ys ≡ less (dropped (is_at x) (dropped (is_at y) l)) (dropped (is_at x) ys))
        → less (dropped (is_at y) l) ys ≡ less (dropped (is_at x) l) (cond b ys (y ∷ dropped (is_at x) ys))
    by true e deeper = ap (λ (w : ℕ). less (dropped (is_at w) l) ys) (eqb-true y x e)
    by false e deeper = deeper (omega (arith, there, ap one_if e)) ∙ ap (λ (k : List ℕ). less k (dropped (is_at x) ys)) (dropped-swap x y l)

-- the same members, in another order, leave the same
pub less-same : (l xs ys : List ℕ) → ((w : ℕ) → times w xs ≡ times w ys) → less l xs ≡ less l ys
less-same l [] ys same = ap (less l) (sym (nothing-there ys (λ w. sym (same w))))
less-same l (x ∷ xs) ys same =
    let there : 1 ≤ times x ys = omega (arith, same x, one-here x) in
    less-same (dropped (is_at x) l) xs (dropped (is_at x) ys) (λ w. omega (arith, same w, times-dropped x w ys there))
    ∙ sym (less-member x l ys there)

-- members are taken away in two parts
pub less-append : (l xs ys : List ℕ) → less l (xs ++ ys) ≡ less (less l xs) ys
less-append l [] ys = refl
less-append l (x ∷ xs) ys = less-append (dropped (is_at x) l) xs ys

-- a list is one longer than without a member
dropped-long : (x : ℕ) (l : List ℕ) → 1 ≤ times x l → length (dropped (is_at x) l) + 1 ≡ length l
dropped-long x [] there = absurd (omega (arith, there))
dropped-long x (y ∷ l) there = by (y == x) refl (dropped-long x l)
  where
    by : (b : Bool) → (y == x) ≡ b → (1 ≤ times x l → length (dropped (is_at x) l) + 1 ≡ length l) → length (cond b l (y ∷ dropped (is_at x) l)) + 1 ≡ length (y ∷ l)
    by true e deeper = omega arith
    by false e deeper = omega (arith, deeper (omega (arith, there, ap one_if e)))

-- what is left is as much shorter as is taken away
pub less-long : (l xs : List ℕ) → ((w : ℕ) → times w xs ≤ times w l) → length (less l xs) + length xs ≡ length l
less-long l [] few = omega arith
less-long l (x ∷ xs) few =
    let there : 1 ≤ times x l = omega (arith, few x, one-here x) in
    omega (arith, dropped-long x l there, less-long (dropped (is_at x) l) xs (λ w. omega (arith, few w, times-dropped x w l there)))
