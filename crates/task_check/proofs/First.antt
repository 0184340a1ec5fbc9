-- The first of the faults of one kind or another, and of the members of a list.
use Rattle.std.proofs.Common.{◌≡◌, ℕ, zero, suc, ◌+◌, ◌<◌, ◌≤◌, Bool, true, false, ◌&&◌, ◌||◌, cond, nat_eq, nat_lt, Option, Some, None, List, [], ◌∷◌, length, slice_get, refl, subst, ◌⊎◌, inl, inr, arith}
use Rattle.std.proofs.lemmas.Bool.{cases_lt}
use Rattle.std.proofs.lemmas.Bool.Decides.{nat_tests}
use Rattle.task_check.specs.declared.fault.Found.{Found}
use Rattle.task_check.specs.Causes.{rank}
use Rattle.task_check.specs.Faults.{IsFirst, precedes, SomeAt}
use Rattle.task_check.specs.Parts.{earlier_of}

-- places by line, rank and position
abbrev comes_first : (a b c x y z : ℕ) → Bool
comes_first a b c x y z = nat_lt a x || (nat_eq a x && (nat_lt b y || (nat_eq b y && nat_lt c z)))

onward : (a b c x y z l m n : ℕ) → comes_first a b c x y z ≡ true → comes_first x y z l m n ≡ true → comes_first a b c l m n ≡ true
onward a b c x y z l m n p q = grind (arith, nat_tests)

backward : (a b c x y z l m n : ℕ) → comes_first a b c x y z ≡ false → comes_first x y z l m n ≡ false → comes_first a b c l m n ≡ false
backward a b c x y z l m n p q = grind (arith, nat_tests)

no_later : (a b c z : ℕ) → z ≤ c → comes_first a b c a b z ≡ false
no_later a b c z h = grind (arith, nat_tests)

precedes-onward : (f g h : Found) → precedes f g ≡ true → precedes g h ≡ true → precedes f h ≡ true
precedes-onward f g h p q = onward f.line (rank f.cause) f.position g.line (rank g.cause) g.position h.line (rank h.cause) h.position p q

precedes-backward : (f g h : Found) → precedes f g ≡ false → precedes g h ≡ false → precedes f h ≡ false
precedes-backward f g h p q = backward f.line (rank f.cause) f.position g.line (rank g.cause) g.position h.line (rank h.cause) h.position p q

-- in one line and for one cause nothing further right comes before
pub precedes-right : (f g : Found) → g.line ≡ f.line → g.cause ≡ f.cause → f.position ≤ g.position → precedes g f ≡ false
precedes-right f g l c p = rw (l, c) (no_later f.line (rank f.cause) g.position f.position p)

apart : (b : Bool) → b ≡ false → b ≡ true → ⊥
apart b p q = cc

-- the first fault is the same for the same faults
pub first-same : (P Q : Found → Type 0) → ((f : Found) → P f → Q f) → ((f : Found) → Q f → P f) → (r : Option Found) → IsFirst P r → IsFirst Q r
first-same P Q to back None first = λ f q. first f (back f q)
first-same P Q to back (Some f) first = (to f first.0, λ g q. first.1 g (back g q))

-- the earlier of two first faults is the first of all
pub first-earlier : (P Q : Found → Type 0) (a b : Option Found) → IsFirst P a → IsFirst Q b → IsFirst (λ f. P f ⊎ Q f) (earlier_of a b)
first-earlier P Q None None first second = λ f m. elim m [ inl p ↦ first f p | inr q ↦ second f q ]
first-earlier P Q None (Some g) first second = (inr second.0, λ h m. elim m [ inl p ↦ absurd (first h p) | inr q ↦ second.1 h q ])
first-earlier P Q (Some f) None first second = (inl first.0, λ h m. elim m [ inl p ↦ first.1 h p | inr q ↦ absurd (second h q) ])
first-earlier P Q (Some f) (Some g) first second = by (precedes g f) refl where
  later : (h : Found) → precedes h f ≡ false → precedes g f ≡ true → (b : Bool) → precedes h g ≡ b → precedes h g ≡ false
  later h p q true e = absurd (apart (precedes h f) p (precedes-onward h g f e q))
  later h p q false e = e

  by : (b : Bool) → precedes g f ≡ b → IsFirst (λ f. P f ⊎ Q f) (cond b (Some g) (Some f))
  by true e = (inr second.0, λ h m. elim m [ inl p ↦ later h (first.1 h p) e (precedes h g) refl | inr q ↦ second.1 h q ])
  by false e = (inl first.0, λ h m. elim m [ inl p ↦ first.1 h p | inr q ↦ precedes-backward h g f (second.1 h q) e ])

-- the faults of the first members of a list
abbrev pub Below : {X : Type 0} → List X → (ℕ → X → Found → Type 0) → ℕ → Found → Type 0
Below {X} xs P n f = (i : ℕ) × (x : X) × (i < n) × (slice_get xs i ≡ Some x) × P i x f

-- of no members there is no fault
pub first-start : {X : Type 0} (xs : List X) (P : ℕ → X → Found → Type 0) → IsFirst (Below xs P 0) None
first-start xs P = λ f m. let h : m.0 < 0 = m.2 in absurd (omega arith)

last-place : {X : Type 0} (xs : List X) (P : ℕ → X → Found → Type 0) (n : ℕ) (x : X) → slice_get xs n ≡ Some x → (i : ℕ) (y : X) (f : Found) → i ≡ n → slice_get xs i ≡ Some y → P i y f → P n x f
last-place xs P n x here i y f e s p =
    let same : y ≡ x = (let t : slice_get xs n ≡ Some y = subst (λ k. slice_get xs k ≡ Some y) e s in cc) in
    subst (λ k. P n k f) same (subst (λ k. P k y f) e p)

-- one more member, and its first fault
pub first-more : {X : Type 0} (xs : List X) (P : ℕ → X → Found → Type 0) (n : ℕ) (x : X) (a b : Option Found) → slice_get xs n ≡ Some x
    → IsFirst (Below xs P n) a → IsFirst (P n x) b → IsFirst (Below xs P (n + 1)) (earlier_of a b)
first-more xs P n x a b here first second =
    first-same (λ f. Below xs P n f ⊎ P n x f) (Below xs P (n + 1))
    (λ f m. elim m [ inl l ↦ (let h : l.0 < n = l.2 in (l.0, l.1, omega arith, l.3, l.4)) | inr q ↦ (n, x, omega arith, here, q) ])
    (λ f m. let k : m.0 < n + 1 = m.2 in elim (cases_lt m.0 n) [
      | inl h ↦ inl (m.0, m.1, h, m.3, m.4)
      | inr h ↦ inr (last-place xs P n x here m.0 m.1 f (omega arith) m.3 m.4)
    ])
    (earlier_of a b) (first-earlier (Below xs P n) (P n x) a b first second)

-- what stands in a list stands inside it
pub place-within : {X : Type 0} (xs : List X) (i : ℕ) (x : X) → slice_get xs i ≡ Some x → i < length xs
place-within [] i x e = cc
place-within (y ∷ ys) zero x e = omega arith
place-within (y ∷ ys) (suc i) x e = let h : i < length ys = place-within ys i x e in omega arith

-- the first fault of all members is that of the list
pub first-all : {X : Type 0} (xs : List X) (P : ℕ → X → Found → Type 0) (n : ℕ) (r : Option Found) → length xs ≤ n → IsFirst (Below xs P n) r → IsFirst (λ f. SomeAt xs (λ i x. P i x f)) r
first-all xs P n r h first = first-same (Below xs P n) (λ f. SomeAt xs (λ i x. P i x f)) (λ f m. (m.0, m.1, m.3, m.4))
    (λ f m. let k : m.0 < length xs = place-within xs m.0 m.1 m.2 in (m.0, m.1, omega arith, m.2, m.3)) r first
