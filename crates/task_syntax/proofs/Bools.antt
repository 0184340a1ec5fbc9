-- Tests on lists, by place.
use Rattle.std.proofs.Common.{◌≡◌, ℕ, zero, suc, ◌+◌, take, add-one, Bool, true, false, ◌&&◌, ◌||◌, not, cond, nat_eq, Some, List, [], ◌∷◌, slice_get, refl, sym, ◌∙◌, ap, ◌⊎◌, inl, inr}
use Rattle.std.proofs.lemmas.Bool.{eqb-true, eq-eqb}
use Rattle.std.specs.List.{list_all, list_any}
use Rattle.task_syntax.specs.Facts.{has, without}

pub both : (a b : Bool) → (a && b) ≡ true → (a ≡ true) × (b ≡ true)
both true b e = (refl, e)
both false b e = cc

pub either : (a b : Bool) → (a || b) ≡ true → (a ≡ true) ⊎ (b ≡ true)
either true b e = inl refl
either false b e = inr e

pub or_right : (a b : Bool) → b ≡ true → (a || b) ≡ true
or_right true b e = refl
or_right false b e = e

-- a test that each member passes is passed by the one at a place
pub list_all-at : {X : Type 0} (p : X → Bool) (xs : List X) (i : ℕ) (x : X) → list_all p xs ≡ true → slice_get xs i ≡ Some x → p x ≡ true
list_all-at p [] i x h e = cc
list_all-at p (y ∷ ys) zero x h e = let b : (p y ≡ true) × (list_all p ys ≡ true) = both _ _ h in cc
list_all-at p (y ∷ ys) (suc i) x h e = list_all-at p ys i x (both (p y) (list_all p ys) h).1 e

-- the first member of a longer list is in it, and so is what the rest has
pub has-first : (x y : ℕ) (xs : List ℕ) → x ≡ y → has x (y ∷ xs) ≡ true
has-first x y xs e = ap (λ b. b || has x xs) (eq-eqb x y e)

pub has-rest : (x y : ℕ) (xs : List ℕ) → has x xs ≡ true → has x (y ∷ xs) ≡ true
has-rest x y xs h = or_right (nat_eq x y) (has x xs) h

-- what is in a list without y is not y, and is in the list
pub has-without : (x y : ℕ) (xs : List ℕ) → has x (without y xs) ≡ true → (nat_eq y x ≡ false) × (has x xs ≡ true)
has-without x y [] h = cc
has-without x y (z ∷ zs) h = by (nat_eq y z) refl h (has-without x y zs) where
  by : (b : Bool) → nat_eq y z ≡ b → has x (cond (not b) (z ∷ without y zs) (without y zs)) ≡ true
      → (has x (without y zs) ≡ true → (nat_eq y x ≡ false) × (has x zs ≡ true)) → (nat_eq y x ≡ false) × (has x (z ∷ zs) ≡ true)
  by true e g more = let r = more g in (r.0, has-rest x z zs r.1)
  by false e g more = elim (either (nat_eq x z) (has x (without y zs)) g) [
    | inl s ↦ (ap (λ v. nat_eq y v) (eqb-true x z s) ∙ e, has-first x z zs (eqb-true x z s))
    | inr s ↦ let r = more s in (r.0, has-rest x z zs r.1)
  ]

-- what is in a list and is not y stays without y
pub has-kept : (x y : ℕ) (xs : List ℕ) → nat_eq y x ≡ false → has x xs ≡ true → has x (without y xs) ≡ true
has-kept x y [] n h = h
has-kept x y (z ∷ zs) n h = by (nat_eq y z) refl (has-kept x y zs n) where
  by : (b : Bool) → nat_eq y z ≡ b → (has x zs ≡ true → has x (without y zs) ≡ true)
      → has x (cond (not b) (z ∷ without y zs) (without y zs)) ≡ true
  by true e more = elim (either (nat_eq x z) (has x zs) h) [
    | inl s ↦ let c : true ≡ false = sym e ∙ (ap (λ v. nat_eq y v) (sym (eqb-true x z s)) ∙ n) in cc
    | inr s ↦ more s
  ]
  by false e more = elim (either (nat_eq x z) (has x zs) h) [
    | inl s ↦ has-first x z (without y zs) (eqb-true x z s)
    | inr s ↦ has-rest x z (without y zs) (more s)
  ]

pub or_false : (b : Bool) → (b || false) ≡ b
or_false true = refl
or_false false = refl

pub or_assoc : (a b c : Bool) → (a || (b || c)) ≡ ((a || b) || c)
or_assoc true b c = refl
or_assoc false b c = refl

pub not_true : (b : Bool) → not b ≡ true → b ≡ false
not_true true h = cc
not_true false h = refl

any-suc : {X : Type 0} (p : X → Bool) (xs : List X) (i : ℕ) (x : X) → slice_get xs i ≡ Some x → list_any p (take (suc i) xs) ≡ (list_any p (take i xs) || p x)
any-suc p [] i x e = cc
any-suc p (y ∷ ys) zero x e = let s : y ≡ x = cc in ap (λ v. p v || false) s ∙ or_false (p x)
any-suc p (y ∷ ys) (suc i) x e = ap (λ b. p y || b) (any-suc p ys i x e) ∙ or_assoc (p y) (list_any p (take i ys)) (p x)

-- a test of some member of a front, where one more member is taken
pub any-more : {X : Type 0} (p : X → Bool) (xs : List X) (i : ℕ) (x : X) → slice_get xs i ≡ Some x → list_any p (take (i + 1) xs) ≡ (list_any p (take i xs) || p x)
any-more p xs i x e = ap (λ n. list_any p (take n xs)) (add-one i) ∙ any-suc p xs i x e
