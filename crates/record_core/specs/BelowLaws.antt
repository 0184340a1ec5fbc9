-- Laws of the sum over the numbers below a bound.
use Rattle.std.specs.Prelude.{◌≡◌, ◌≢◌, ℕ, suc, ◌+◌, ◌*◌, ◌≤◌, ◌<◌}
use Rattle.record_core.specs.Sums.{below}

-- f and g differ at one number at most
abbrev pub BelowSet : Type 0
BelowSet = (f g : ℕ → ℕ) (n place : ℕ) → place < n → ((k : ℕ) → k < n → k ≢ place → g k ≡ f k)
    → below g n + f place ≡ below f n + g place

-- f and g differ at two numbers at most
abbrev pub BelowSetTwo : Type 0
BelowSetTwo = (f g : ℕ → ℕ) (n place place' : ℕ) → place < n → place' < n → place ≢ place'
    → ((k : ℕ) → k < n → k ≢ place → k ≢ place' → g k ≡ f k)
    → below g n + f place + f place' ≡ below f n + g place + g place'

-- what is true at each number is true of the sum
abbrev pub BelowSame : Type 0
BelowSame = (f g : ℕ → ℕ) (n : ℕ) → ((k : ℕ) → k < n → f k ≡ g k) → below f n ≡ below g n

abbrev pub BelowLe : Type 0
BelowLe = (f g : ℕ → ℕ) (n : ℕ) → ((k : ℕ) → k < n → f k ≤ g k) → below f n ≤ below g n

abbrev pub BelowBounded : Type 0
BelowBounded = (f : ℕ → ℕ) (bound n : ℕ) → ((k : ℕ) → k < n → f k ≤ bound) → below f n ≤ bound * n

-- each member is at most the sum
abbrev pub BelowMember : Type 0
BelowMember = (f : ℕ → ℕ) (n place : ℕ) → place < n → f place ≤ below f n

-- a higher bound, and the numbers from the lower bound on
abbrev pub BelowRises : Type 0
BelowRises = (f : ℕ → ℕ) (n m : ℕ) → n ≤ m → below f n ≤ below f m

abbrev pub BelowAppend : Type 0
BelowAppend = (f : ℕ → ℕ) (n m : ℕ) → below f (n + m) ≡ below f n + below (λ k. f (n + k)) m

-- the first number apart
abbrev pub BelowFront : Type 0
BelowFront = (f : ℕ → ℕ) (n : ℕ) → below f (suc n) ≡ f 0 + below (λ k. f (suc k)) n

-- the sum of sums
abbrev pub BelowPlus : Type 0
BelowPlus = (f g : ℕ → ℕ) (n : ℕ) → below (λ k. f k + g k) n ≡ below f n + below g n
