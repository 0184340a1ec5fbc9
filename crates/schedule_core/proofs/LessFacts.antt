-- Lists of references from which those of a frame are taken.
use Rattle.std.proofs.Common.{◌≡◌, ◌∙◌, ℕ, ◌≤◌, ◌==◌, Bool, true, false, cond, List, [], ◌∷◌, ◌++◌, refl, ap, arith}
use Rattle.record_core.specs.Counting.{one_if, times, dropped}
use Rattle.table_core.specs.RecordViews.{is_at}
use Rattle.table_core.proofs.BagFacts.{times-dropped, one-here}
use Rattle.schedule_rule.specs.PlacingViews.{less}

-- a list in which nothing stands is empty
none-stands : (l : List ℕ) → ((w : ℕ) → times w l ≡ 0) → l ≡ []
none-stands [] none = refl
none-stands (x ∷ l) none = absurd (omega (arith, none x, one-here x))

-- what stands in the first part of a list is dropped from there
dropped-front : (x : ℕ) (l more : List ℕ) → 1 ≤ times x l → dropped (is_at x) (l ++ more) ≡ dropped (is_at x) l ++ more
dropped-front x [] more there = absurd (omega (arith, there))
dropped-front x (y ∷ l) more there = by (y == x) refl (dropped-front x l more)
  where
    by : (b : Bool) → (y == x) ≡ b → (1 ≤ times x l → dropped (is_at x) (l ++ more) ≡ dropped (is_at x) l ++ more) → cond b (l ++ more) (y ∷ dropped (is_at x) (l ++ more)) ≡ cond b l (y ∷ dropped (is_at x) l) ++ more
    by true e deeper = refl
    by false e deeper = ap (λ (k : List ℕ). y ∷ k) (deeper (omega (arith, there, ap one_if e)))

-- without the references that a frame takes, the list is what it was before as many were added
pub less-front : (front names futures : List ℕ) → ((w : ℕ) → times w front ≡ times w names) → less (front ++ futures) names ≡ futures
less-front front [] futures same = ap (λ (l : List ℕ). l ++ futures) (none-stands front same)
less-front front (x ∷ names) futures same =
    let there : 1 ≤ times x front = omega (arith, same x, one-here x) in
    ap (λ (l : List ℕ). less l names) (dropped-front x front futures there)
    ∙ less-front (dropped (is_at x) front) names futures (λ w. omega (arith, same w, times-dropped x w front there))
