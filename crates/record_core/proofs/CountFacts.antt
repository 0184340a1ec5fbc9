-- How many members pass a test, by name.
use Rattle.std.proofs.Common.{◌≡◌, ◌↔◌, ◌∙◌, inl, inr, ℕ, zero, suc, ◌+◌, ◌≤◌, ◌<◌, Bool, true, false, cond, Some, List, [], ◌∷◌, ◌++◌, refl, ap, subst, arith}
use Rattle.std.proofs.lemmas.Bool.{cases_eq, cases_Bool, eqb-true, eq-eqb}
use Rattle.std.specs.Prelude.{◌==◌, slice_set}
use Rattle.task_syntax.specs.Places.{Each}
use Rattle.record_core.specs.Sums.{total, without}
use Rattle.record_core.specs.Counting.{At, Has, one_if, passing, times, dropped}
use Rattle.record_core.specs.CountLaws.{HasPassing}
use Rattle.record_core.proofs.TotalFacts.{none_there, total-set, total-snoc, total-member, total-two_members}

-- one position has one member
same_member : {X : Type 0} (x y : X) → Some x ≡ Some y → x ≡ y
same_member x y e = cc

-- a first member that passes goes, and one that does not stays
dropped-yes : {X : Type 0} (p : X → Bool) (x : X) (l : List X) → p x ≡ true → dropped p (x ∷ l) ≡ l
dropped-yes p x l e = ap (λ b. cond b l (x ∷ dropped p l)) e

dropped-no : {X : Type 0} (p : X → Bool) (x : X) (l : List X) → p x ≡ false → dropped p (x ∷ l) ≡ x ∷ dropped p l
dropped-no p x l e = ap (λ b. cond b l (x ∷ dropped p l)) e

-- the first member that passes is what goes
pub dropped-first : {X : Type 0} (p : X → Bool) (l : List X) (k : ℕ) (x : X) → At l k x → p x ≡ true
    → ((j : ℕ) (y : X) → j < k → At l j y → p y ≡ false) → dropped p l ≡ without l k
dropped-first p [] k x at pass before = absurd (none_there x at)
dropped-first p (y ∷ l) zero x at pass before = dropped-yes p y l (ap p (same_member y x at) ∙ pass)
dropped-first p (y ∷ l) (suc k) x at pass before =
    dropped-no p y l (before 0 y (omega arith) refl)
    ∙ ap (λ rest. y ∷ rest) (dropped-first p l k x at pass (λ j z b. before (suc j) z (omega (arith, b))))

-- where no member passes, none goes
pub dropped-none : {X : Type 0} (p : X → Bool) (l : List X) → Each l (λ x. p x ≡ false) → dropped p l ≡ l
dropped-none p [] each = refl
dropped-none p (y ∷ l) each = dropped-no p y l (each 0 y refl) ∙ ap (λ rest. y ∷ rest) (dropped-none p l (λ k. each (suc k)))

-- two that pass stand at one position, where at most one does
pub passing-one : {X : Type 0} (q : X → Bool) (l : List X) (j k : ℕ) (x y : X) → passing q l ≤ 1 → At l j x → q x ≡ true → At l k y → q y ≡ true → j ≡ k
passing-one q l j k x y few at_j pass at_k also = elim (cases_eq j k) [
  | inl e ↦ e
  | inr ne ↦ absurd (omega (arith, few, total-two_members (λ z. one_if (q z)) l j k x y ne at_j at_k, ap one_if pass, ap one_if also))
]

-- the only member that passes is what goes
pub dropped-one : {X : Type 0} (p : X → Bool) (l : List X) (k : ℕ) (x : X) → At l k x → p x ≡ true → passing p l ≤ 1 → dropped p l ≡ without l k
dropped-one {X} p l k x at pass few = dropped-first p l k x at pass before
  where
    before : (j : ℕ) (y : X) → j < k → At l j y → p y ≡ false
    before j y b there = elim (cases_Bool (p y)) [
      | inl also ↦ let e : j ≡ k = passing-one p l j k y x few there also at pass in absurd (omega (arith, b, e))
      | inr fail ↦ fail
    ]

-- where the first member does not pass, a later one does
at_later : {X : Type 0} (p : X → Bool) (y : X) (l : List X) → p y ≡ false → (x : X) (k : ℕ) → At (y ∷ l) k x → p x ≡ true → HasPassing p l
at_later p y l fail x zero at pass = let e : p y ≡ p x = ap p (same_member y x at) in absurd cc
at_later p y l fail x (suc k) at pass = record { member = x; there = (k, at); passes = pass }

-- a member that passes is a later one, if the first does not
later : {X : Type 0} (p : X → Bool) (y : X) (l : List X) → p y ≡ false → HasPassing p (y ∷ l) → HasPassing p l
later p y l fail some = at_later p y l fail some.member some.there.0 some.there.1 some.passes

-- the sum falls by what the member weighs that goes
pub total-dropped : {X : Type 0} (f : X → ℕ) (p : X → Bool) (n : ℕ) (l : List X) → Each l (λ x. p x ≡ true → f x ≡ n) → HasPassing p l
    → total f (dropped p l) + n ≡ total f l
total-dropped f p n [] each some = absurd (none_there some.member some.there.1)
total-dropped f p n (y ∷ l) each some = elim (cases_Bool (p y)) [
  | inl pass ↦ omega (arith, ap (total f) (dropped-yes p y l pass), each 0 y refl pass)
  | inr fail ↦ omega (arith, ap (total f) (dropped-no p y l fail), total-dropped f p n l (λ k. each (suc k)) (later p y l fail some))
]

-- one more at the front
pub passing-cons : {X : Type 0} (q : X → Bool) (l : List X) (x : X) → passing q (x ∷ l) ≡ one_if (q x) + passing q l
passing-cons q l x = refl

-- one more at the end
pub passing-snoc : {X : Type 0} (q : X → Bool) (l : List X) (x : X) → passing q (l ++ x ∷ []) ≡ passing q l + one_if (q x)
passing-snoc q l x = total-snoc (λ y. one_if (q y)) l x

-- one that passed goes
pub passing-dropped : {X : Type 0} (p q : X → Bool) (l : List X) → Each l (λ x. p x ≡ true → q x ≡ true) → HasPassing p l
    → passing q (dropped p l) + 1 ≡ passing q l
passing-dropped p q l each some = total-dropped (λ x. one_if (q x)) p 1 l (λ k x at pass. ap one_if (each k x at pass)) some

-- one that did not pass goes
pub passing-kept : {X : Type 0} (p q : X → Bool) (l : List X) → Each l (λ x. p x ≡ true → q x ≡ false) → passing q (dropped p l) ≡ passing q l
passing-kept p q [] each = refl
passing-kept p q (y ∷ l) each = elim (cases_Bool (p y)) [
  | inl pass ↦ omega (arith, ap (passing q) (dropped-yes p y l pass), ap one_if (each 0 y refl pass))
  | inr fail ↦ omega (arith, ap (passing q) (dropped-no p y l fail), passing-kept p q l (λ k. each (suc k)))
]

-- one is replaced
pub passing-set : {X : Type 0} (q : X → Bool) (l : List X) (k : ℕ) (x y : X) → At l k x
    → passing q (slice_set l k y) + one_if (q x) ≡ passing q l + one_if (q y)
passing-set q l k x y at = total-set (λ z. one_if (q z)) l k x y at

-- a count above 0 has a member, and a member is counted
some_passes : {X : Type 0} (q : X → Bool) (l : List X) → 1 ≤ passing q l → HasPassing q l
some_passes q [] many = absurd (omega (arith, many))
some_passes q (y ∷ l) many = elim (cases_Bool (q y)) [
  | inl pass ↦ record { member = y; there = (0, refl); passes = pass }
  | inr fail ↦
      let some : HasPassing q l = some_passes q l (omega (arith, many, ap one_if fail)) in
      record { member = some.member; there = (suc some.there.0, some.there.1); passes = some.passes }
]

-- a member that passes is counted
is_counted : {X : Type 0} (q : X → Bool) (l : List X) → HasPassing q l → 1 ≤ passing q l
is_counted q l some = omega (arith, total-member (λ x. one_if (q x)) l some.there.0 some.member some.there.1, ap one_if some.passes)

-- the count is not 0 exactly where a member passes
pub passing-some : {X : Type 0} (q : X → Bool) (l : List X) → (1 ≤ passing q l) ↔ HasPassing q l
passing-some q l = (some_passes q l, is_counted q l)

-- a number that is counted is a member
number_there : (n : ℕ) (l : List ℕ) → HasPassing (λ m. m == n) l → Has n l
number_there n l some =
    let e : some.member ≡ n = eqb-true some.member n some.passes in
    subst (λ (m : ℕ). Has m l) e some.there

-- a member is counted
number_counted : (n : ℕ) (l : List ℕ) → Has n l → 1 ≤ times n l
number_counted n l there = is_counted (λ m. m == n) l (record { member = n; there = there; passes = eq-eqb n n refl })

-- a number is a member exactly where it occurs
pub times-some : (n : ℕ) (l : List ℕ) → (1 ≤ times n l) ↔ Has n l
times-some n l = (λ many. number_there n l (some_passes (λ m. m == n) l many), number_counted n l)
