-- Sums over the members of a list and over the numbers below a bound, by structure, so that a proof reads them as they
-- unfold.
use Rattle.std.specs.Prelude.{ℕ, zero, suc, ◌+◌, List, [], ◌∷◌}

-- the sum of f over the members
abbrev pub total : {X : Type 0} → (X → ℕ) → List X → ℕ
total f [] = 0
total f (x ∷ xs) = f x + total f xs

-- f 0 + f 1 + .. + f (n - 1)
abbrev pub below : (ℕ → ℕ) → ℕ → ℕ
below f zero = 0
below f (suc n) = below f n + f n

-- the list without its member at a place
abbrev pub without : {X : Type 0} → List X → ℕ → List X
without [] place = []
without (x ∷ xs) zero = xs
without (x ∷ xs) (suc place) = x ∷ without xs place
