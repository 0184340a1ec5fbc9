-- The sums at small values.
use Rattle.std.proofs.Common.{◌≡◌, ℕ, [], ◌∷◌, refl, ◌+◌, ◌*◌}
use Rattle.record_core.specs.Sums.{total, below, without}

of_list : total (λ x. x * x) (1 ∷ 2 ∷ 3 ∷ []) ≡ 14
of_list = refl

below_five : below (λ k. k + 1) 5 ≡ 15
below_five = refl

without_middle : without {X = ℕ} (4 ∷ 5 ∷ 6 ∷ []) 1 ≡ 4 ∷ 6 ∷ []
without_middle = refl
