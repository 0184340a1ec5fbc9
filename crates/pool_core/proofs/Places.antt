-- A list after a write to one place.
use Rattle.std.proofs.Common.{◌≡◌, ◌≢◌, ℕ, zero, suc, ◌<◌, List, [], ◌∷◌, Some, length, slice_get, set, refl, ap, arith}

pub slice_get-set_same : {X : Type 0} (xs : List X) (i : ℕ) (w : X) → i < length xs → slice_get (set xs i w) i ≡ Some w
slice_get-set_same [] i w h = absurd (omega arith)
slice_get-set_same (x ∷ xs) zero w h = refl
slice_get-set_same (x ∷ xs) (suc i) w h = slice_get-set_same xs i w (omega arith)

pub slice_get-set_other : {X : Type 0} (xs : List X) (i j : ℕ) (w : X) → j ≢ i → slice_get (set xs i w) j ≡ slice_get xs j
slice_get-set_other [] i j w ne = refl
slice_get-set_other (x ∷ xs) zero zero w ne = absurd (ne refl)
slice_get-set_other (x ∷ xs) zero (suc j) w ne = refl
slice_get-set_other (x ∷ xs) (suc i) zero w ne = refl
slice_get-set_other (x ∷ xs) (suc i) (suc j) w ne = slice_get-set_other xs i j w (λ e. ne (ap (λ k. suc k) e))
