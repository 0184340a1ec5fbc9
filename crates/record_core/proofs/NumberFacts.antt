-- Facts on lists by number: one more member at the end, and another member at a number.
use Rattle.std.proofs.Common.{◌≡◌, ◌≢◌, ◌⊎◌, inl, inr, ℕ, zero, suc, ◌+◌, ◌≤◌, ◌<◌, Some, List, [], ◌∷◌, ◌++◌, length, refl, sym, ap, arith}
use Rattle.std.specs.Prelude.{slice_get, slice_set}
use Rattle.record_core.specs.Numbers.{by_number, put_number}
use Rattle.record_core.specs.Sums.{total}
use Rattle.record_core.proofs.TotalFacts.{none_there, slice_get-set_other, total-set}

-- a member's number is in range, and a number in range has a member
pub at-in_range : {A : Type 0} (xs : List A) (k : ℕ) (x : A) → slice_get xs k ≡ Some x → k < length xs
at-in_range [] k x at = absurd (none_there x at)
at-in_range (y ∷ xs) zero x at = omega arith
at-in_range (y ∷ xs) (suc k) x at = omega (arith, at-in_range xs k x at)

-- a position in range has a member
pub member_at : {A : Type 0} (xs : List A) (k : ℕ) → k < length xs → (x : A) × (slice_get xs k ≡ Some x)
member_at [] k b = absurd (omega (arith, b))
member_at (y ∷ xs) zero b = (y, refl)
member_at (y ∷ xs) (suc k) b = member_at xs k (omega (arith, b))

-- a member's number is in range
pub number-in_range : {A : Type 0} (xs : List A) (n : ℕ) (x : A) → by_number xs n ≡ Some x → (1 ≤ n) × (n ≤ length xs)
number-in_range xs zero x at = absurd (none_there x at)
number-in_range xs (suc n) x at = (omega arith, omega (arith, at-in_range xs n x at))

-- a number in range has a member
pub numbered_member : {A : Type 0} (xs : List A) (n : ℕ) → 1 ≤ n → n ≤ length xs → (x : A) × (by_number xs n ≡ Some x)
numbered_member xs zero some few = absurd (omega (arith, some))
numbered_member xs (suc n) some few = member_at xs n (omega (arith, few))

-- one more at the end: the old members keep their numbers, and the new one has the next number
at-old : {A : Type 0} (xs : List A) (x y : A) (k : ℕ) → slice_get xs k ≡ Some y → slice_get (xs ++ x ∷ []) k ≡ Some y
at-old [] x y k at = absurd (none_there y at)
at-old (z ∷ xs) x y zero at = at
at-old (z ∷ xs) x y (suc k) at = at-old xs x y k at

-- the new member stands at the end
at-new : {A : Type 0} (xs : List A) (x : A) → slice_get (xs ++ x ∷ []) (length xs) ≡ Some x
at-new [] x = refl
at-new (z ∷ xs) x = at-new xs x

-- a member of the longer list is an old one or the new one
at-cases : {A : Type 0} (xs : List A) (x y : A) (k : ℕ) → slice_get (xs ++ x ∷ []) k ≡ Some y → (slice_get xs k ≡ Some y) ⊎ ((k ≡ length xs) × (y ≡ x))
at-cases [] x y zero at = inr (refl, cc)
at-cases [] x y (suc k) at = absurd (none_there y at)
at-cases (z ∷ xs) x y zero at = inl at
at-cases (z ∷ xs) x y (suc k) at = elim (at-cases xs x y k at) [ inl old ↦ inl old | inr new ↦ inr (ap suc new.0, new.1) ]

-- an old member keeps its number
pub number-old : {A : Type 0} (xs : List A) (x y : A) (n : ℕ) → by_number xs n ≡ Some y → by_number (xs ++ x ∷ []) n ≡ Some y
number-old xs x y zero at = absurd (none_there y at)
number-old xs x y (suc n) at = at-old xs x y n at

-- the new member has the next number
pub number-new : {A : Type 0} (xs : List A) (x : A) → by_number (xs ++ x ∷ []) (suc (length xs)) ≡ Some x
number-new xs x = at-new xs x

-- a number has an old member or is the new one
pub number-cases : {A : Type 0} (xs : List A) (x y : A) (n : ℕ) → by_number (xs ++ x ∷ []) n ≡ Some y
    → (by_number xs n ≡ Some y) ⊎ ((n ≡ suc (length xs)) × (y ≡ x))
number-cases xs x y zero at = absurd (none_there y at)
number-cases xs x y (suc n) at = elim (at-cases xs x y n at) [ inl old ↦ inl old | inr new ↦ inr (ap suc new.0, new.1) ]

-- another member at a number: it stands there, and the others stay
at-set : {A : Type 0} (xs : List A) (k : ℕ) (x y : A) → slice_get xs k ≡ Some y → slice_get (slice_set xs k x) k ≡ Some x
at-set [] k x y at = absurd (none_there y at)
at-set (z ∷ xs) zero x y at = refl
at-set (z ∷ xs) (suc k) x y at = at-set xs k x y at

-- the new member stands at its number
pub number-set : {A : Type 0} (xs : List A) (n : ℕ) (x y : A) → by_number xs n ≡ Some y → by_number (put_number xs n x) n ≡ Some x
number-set xs zero x y at = absurd (none_there y at)
number-set xs (suc n) x y at = at-set xs n x y at

-- the other numbers keep their members
pub number-other : {A : Type 0} (xs : List A) (n m : ℕ) (x : A) → m ≢ n → by_number (put_number xs n x) m ≡ by_number xs m
number-other xs zero m x differ = refl
number-other xs (suc n) zero x differ = refl
number-other xs (suc n) (suc m) x differ = slice_get-set_other xs n m x (λ e. differ (ap suc (sym e)))

-- the list stays as long as it was
pub length-put : {A : Type 0} (xs : List A) (n : ℕ) (x : A) → length (put_number xs n x) ≡ length xs
length-put xs zero x = refl
length-put xs (suc n) x = length-set_at xs n x
  where
    length-set_at : {A : Type 0} (xs : List A) (k : ℕ) (x : A) → length (slice_set xs k x) ≡ length xs
    length-set_at [] k x = refl
    length-set_at (y ∷ xs) zero x = refl
    length-set_at (y ∷ xs) (suc k) x = ap suc (length-set_at xs k x)

-- the sum where one member is replaced
pub total-put : {A : Type 0} (f : A → ℕ) (xs : List A) (n : ℕ) (old new : A) → by_number xs n ≡ Some old
    → total f (put_number xs n new) + f old ≡ total f xs + f new
total-put f xs zero old new at = absurd (none_there old at)
total-put f xs (suc n) old new at = total-set f xs n old new at
