-- Laws of how many members pass a test, as members come, go and are replaced.
use Rattle.std.specs.Prelude.{◌≡◌, ◌↔◌, ◌==◌, ℕ, ◌+◌, ◌<◌, ◌≤◌, Bool, true, false, List, [], ◌∷◌, ◌++◌, slice_set}
use Rattle.task_syntax.specs.Places.{Each}
use Rattle.record_core.specs.Sums.{total, without}
use Rattle.record_core.specs.Counting.{At, Has, one_if, passing, times, dropped}

-- some member passes
pub record HasPassing {X : Type 0} (p : X → Bool) (l : List X) : Type 0 where
  pub member : X
  pub there : Has member l
  pub passes : p member ≡ true

-- `dropped` takes out one member, the first that passes; where none passes it changes nothing
abbrev pub DroppedFirst : Type 0 → Type 0
DroppedFirst X = (p : X → Bool) (l : List X) (k : ℕ) (x : X) → At l k x → p x ≡ true
    → ((j : ℕ) (y : X) → j < k → At l j y → p y ≡ false) → dropped p l ≡ without l k

abbrev pub DroppedNone : Type 0 → Type 0
DroppedNone X = (p : X → Bool) (l : List X) → Each l (λ x. p x ≡ false) → dropped p l ≡ l

-- where no other member passes, it takes out the one that does
abbrev pub DroppedOne : Type 0 → Type 0
DroppedOne X = (p : X → Bool) (l : List X) (k : ℕ) (x : X) → At l k x → p x ≡ true → passing p l ≤ 1 → dropped p l ≡ without l k

-- where all members that pass weigh n, and one does, the sum falls by n
abbrev pub TotalDropped : Type 0 → Type 0
TotalDropped X = (f : X → ℕ) (p : X → Bool) (n : ℕ) (l : List X) → Each l (λ x. p x ≡ true → f x ≡ n) → HasPassing p l
    → total f (dropped p l) + n ≡ total f l

-- a member comes, at the front or at the end
abbrev pub PassingCons : Type 0 → Type 0
PassingCons X = (q : X → Bool) (l : List X) (x : X) → passing q (x ∷ l) ≡ one_if (q x) + passing q l

abbrev pub PassingSnoc : Type 0 → Type 0
PassingSnoc X = (q : X → Bool) (l : List X) (x : X) → passing q (l ++ x ∷ []) ≡ passing q l + one_if (q x)

-- one goes: what passes is fewer by one where it passed, and as many as before where it did not
abbrev pub PassingDropped : Type 0 → Type 0
PassingDropped X = (p q : X → Bool) (l : List X) → Each l (λ x. p x ≡ true → q x ≡ true) → HasPassing p l
    → passing q (dropped p l) + 1 ≡ passing q l

abbrev pub PassingKept : Type 0 → Type 0
PassingKept X = (p q : X → Bool) (l : List X) → Each l (λ x. p x ≡ true → q x ≡ false) → passing q (dropped p l) ≡ passing q l

-- one is replaced
abbrev pub PassingSet : Type 0 → Type 0
PassingSet X = (q : X → Bool) (l : List X) (k : ℕ) (x y : X) → At l k x
    → passing q (slice_set l k y) + one_if (q x) ≡ passing q l + one_if (q y)

-- some member passes exactly where the count is not 0; where it is at most 1, any two that pass stand at one position
abbrev pub PassingSome : Type 0 → Type 0
PassingSome X = (q : X → Bool) (l : List X) → (1 ≤ passing q l) ↔ HasPassing q l

abbrev pub PassingOne : Type 0 → Type 0
PassingOne X = (q : X → Bool) (l : List X) (j k : ℕ) (x y : X) → passing q l ≤ 1 → At l j x → q x ≡ true → At l k y → q y ≡ true → j ≡ k

-- a number is a member exactly where it occurs
abbrev pub TimesSome : Type 0
TimesSome = (n : ℕ) (l : List ℕ) → (1 ≤ times n l) ↔ Has n l

-- it is counted as often as it stands there
abbrev pub TimesEach : Type 0
TimesEach = (n m : ℕ) (l : List ℕ) → (times n [] ≡ 0) × (times n (m ∷ l) ≡ one_if (m == n) + times n l)
