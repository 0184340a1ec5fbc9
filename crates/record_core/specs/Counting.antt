-- Members of a list: which there are, how many pass a test, and the list without the first that does.
use Rattle.std.specs.Prelude.{◌≡◌, ◌==◌, ℕ, Bool, cond, Some, List, [], ◌∷◌, slice_get}
use Rattle.record_core.specs.Sums.{total}

-- x stands at position k
abbrev pub At : {X : Type 0} → List X → ℕ → X → Type 0
At l k x = slice_get l k ≡ Some x

-- x is a member
abbrev pub Has : {X : Type 0} → X → List X → Type 0
Has x l = (k : ℕ) × At l k x

abbrev pub one_if : Bool → ℕ
one_if b = cond b 1 0

-- how many members pass
abbrev pub passing : {X : Type 0} → (X → Bool) → List X → ℕ
passing p l = total (λ x. one_if (p x)) l

-- how often a number is a member
abbrev pub times : ℕ → List ℕ → ℕ
times n l = passing (λ m. m == n) l

-- the list without the first member that passes
abbrev pub dropped : {X : Type 0} → (X → Bool) → List X → List X
dropped p [] = []
dropped p (x ∷ l) = cond (p x) l (x ∷ dropped p l)
