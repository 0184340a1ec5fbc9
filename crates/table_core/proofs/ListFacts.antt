-- Lists of which one member changes, and members that are dropped.
use Rattle.std.proofs.Common.{◌≡◌, ◌≢◌, ◌∙◌, ◌⊎◌, inl, inr, ℕ, zero, suc, ◌+◌, ◌≤◌, Bool, true, false, cond, ◌==◌, ◌&&◌, Some, None, List, [], ◌∷◌, ◌++◌, map, length, refl, sym, ap, subst, true≢false, arith}
use mathlib.Core.Option as maybe
use lib.ListN.{get_elem?}
use Rattle.std.specs.Prelude.{slice_set}
use Rattle.std.proofs.lemmas.Bool.{eq-eqb, eqb-true, and_parts, and_from}
use Rattle.record_core.specs.Sums.{total}
use Rattle.record_core.proofs.CountFacts.{total-dropped}
use Rattle.record_core.proofs.TotalFacts.{total-member}
use Rattle.record_core.specs.Counting.{At, Has, dropped}
use Rattle.table_core.specs.Lists.{Each}
use Rattle.table_core.specs.Holdings.{Place, Block}
use Rattle.table_core.specs.Views.{is_place, same_bool, is_block}

module _ {A : Type 0} where
  none_at : (x : A) → None ≡ Some x → ⊥
  none_at x e = cc

  -- two members under `Some` that are equal are the same
  pub same_some : (x y : A) → Some x ≡ Some y → x ≡ y
  same_some x y e = cc

  -- a list has a member at a position in the words of the table's base crate, and in ours
  pub found : (l : List A) (k : ℕ) (x : A) → get_elem? l k ≡ maybe.some x → At l k x
  found [] k x e = absurd (maybe.some-ne-none x (sym e))
  found (y ∷ l) zero x e = ap Some (maybe.some-injective y x e)
  found (y ∷ l) (suc k) x e = found l k x e

  -- the member that was written
  pub set_here : (l : List A) (k : ℕ) (x y : A) → At l k x → At (slice_set l k y) k y
  set_here [] k x y at = absurd (none_at x at)
  set_here (z ∷ l) zero x y at = refl
  set_here (z ∷ l) (suc k) x y at = set_here l k x y at

  -- a member of a list in which one was written is that one, or stood there before
  pub set_cases : (l : List A) (k j : ℕ) (x y : A) → At (slice_set l k x) j y → ((j ≡ k) × (y ≡ x)) ⊎ ((j ≢ k) × At l j y)
  set_cases [] k j x y at = absurd (none_at y at)
  set_cases (z ∷ l) zero zero x y at = inl (refl, sym (same_some x y at))
  set_cases (z ∷ l) zero (suc j) x y at = inr ((λ e. omega arith), at)
  set_cases (z ∷ l) (suc k) zero x y at = inr ((λ e. omega arith), at)
  set_cases (z ∷ l) (suc k) (suc j) x y at = elim (set_cases l k j x y at) [
    | inl t ↦ inl (ap suc t.0, t.1)
    | inr t ↦ let apart = t.0 in inr ((λ e. apart (omega arith)), t.1)
  ]

  -- a list stays where a member is put again where it stands
  pub set_again : (l : List A) (k : ℕ) (x : A) → At l k x → slice_set l k x ≡ l
  set_again [] k x at = absurd (none_at x at)
  set_again (y ∷ l) zero x at = ap (λ (z : A). z ∷ l) (sym (same_some y x at))
  set_again (y ∷ l) (suc k) x at = ap (λ (r : List A). y ∷ r) (set_again l k x at)

  -- a property of each member
  pub each-set : (P : A → Type 0) (l : List A) (k : ℕ) (y : A) → Each P l → P y → Each P (slice_set l k y)
  each-set P l k y all new j x at = elim (set_cases l k j y x at) [
    | inl t ↦ subst P (sym t.1) new
    | inr t ↦ all j x t.1
  ]

  -- a member of two lists in a row stands in one of them
  pub append_cases : (l more : List A) (k : ℕ) (x : A) → At (l ++ more) k x → Has x l ⊎ Has x more
  append_cases [] more k x at = inr (k, at)
  append_cases (y ∷ l) more zero x at = inl (0, at)
  append_cases (y ∷ l) more (suc k) x at = elim (append_cases l more k x at) [ inl t ↦ inl (suc t.0, t.1) | inr t ↦ inr t ]

  -- what holds of each member of two lists holds of each member of both in a row
  pub each-append : (P : A → Type 0) (l more : List A) → Each P l → Each P more → Each P (l ++ more)
  each-append P l more all all' k x at = elim (append_cases l more k x at) [ inl t ↦ all t.0 x t.1 | inr t ↦ all' t.0 x t.1 ]

  -- of no member there is nothing to show
  pub each-none : (P : A → Type 0) → Each P []
  each-none P k x at = absurd (none_at x at)

  -- what holds of the first and of each other member holds of each
  pub each-cons : (P : A → Type 0) (x : A) (l : List A) → P x → Each P l → Each P (x ∷ l)
  each-cons P x l first all zero y at = subst P (same_some x y at) first
  each-cons P x l first all (suc k) y at = all k y at

  -- what holds of each member holds of each but the first
  pub each-tail : (P : A → Type 0) (x : A) (l : List A) → Each P (x ∷ l) → Each P l
  each-tail P x l all k y at = all (suc k) y at

  -- what is left after a drop was there before
  pub each-dropped : (P : A → Type 0) (p : A → Bool) (l : List A) → Each P l → Each P (dropped p l)
  each-dropped P p [] all = all
  each-dropped P p (x ∷ l) all = by (p x) (each-dropped P p l (each-tail P x l all))
    where
      by : (b : Bool) → Each P (dropped p l) → Each P (cond b l (x ∷ dropped p l))
      by true rest = each-tail P x l all
      by false rest = each-cons P x (dropped p l) (all 0 x refl) rest

  -- where only x passes, its weight goes with it
  pub dropped-one : (p : A → Bool) (x : A) → ((y : A) → p y ≡ true → y ≡ x) → p x ≡ true → (f : A → ℕ) (l : List A) → Has x l
      → total f (dropped p l) + f x ≡ total f l
  dropped-one p x only passes f l has = total-dropped f p (f x) l (λ k y at e. ap f (only y e)) (record { member = x; there = has; passes = passes })

  -- a list of which a member is dropped is shorter by one
  pub length-dropped-has : (p : A → Bool) (l : List A) (x : A) → Has x l → p x ≡ true → length (dropped p l) + 1 ≡ length l
  length-dropped-has p [] x has passes = absurd (none_at x has.1)
  length-dropped-has p (y ∷ l) x has passes = by (p y) refl (λ k at. length-dropped-has p l x (k, at) passes) has.0 has.1
    where
      by : (b : Bool) → p y ≡ b → ((k : ℕ) → At l k x → length (dropped p l) + 1 ≡ length l) → (k : ℕ) → At (y ∷ l) k x
          → length (cond b l (y ∷ dropped p l)) + 1 ≡ suc (length l)
      by true e rest k at = omega arith
      by false e rest zero at = absurd (true≢false (sym passes ∙ ap p (sym (same_some y x at)) ∙ e))
      by false e rest (suc k) at = omega (arith, rest k at)

  -- no sum and no length grows where a member goes
  pub total-dropped_le : (f : A → ℕ) (p : A → Bool) (l : List A) → total f (dropped p l) ≤ total f l
  total-dropped_le f p [] = omega arith
  total-dropped_le f p (x ∷ l) = by (p x) (total-dropped_le f p l)
    where
      by : (b : Bool) → total f (dropped p l) ≤ total f l → total f (cond b l (x ∷ dropped p l)) ≤ f x + total f l
      by true h = omega arith
      by false h = omega (arith, h)

  -- a list from which a member is dropped is no longer than before
  pub length-dropped_le : (p : A → Bool) (l : List A) → length (dropped p l) ≤ length l
  length-dropped_le p [] = omega arith
  length-dropped_le p (x ∷ l) = by (p x) (length-dropped_le p l)
    where
      by : (b : Bool) → length (dropped p l) ≤ length l → length (cond b l (x ∷ dropped p l)) ≤ suc (length l)
      by true h = omega arith
      by false h = omega (arith, h)

  -- the member at a position of a mapped list is that of the list, mapped
  pub at_map : {B : Type 0} (f : A → B) (l : List A) (k : ℕ) (x : A) → At l k x → At (map f l) k (f x)
  at_map f [] k x at = absurd (none_at x at)
  at_map f (y ∷ l) zero x at = ap (λ (z : A). Some (f z)) (same_some y x at)
  at_map f (y ∷ l) (suc k) x at = at_map f l k x at

  -- a member of a mapped list is of a member
  pub map_at : {B : Type 0} (f : A → B) (l : List A) (k : ℕ) (z : B) → At (map f l) k z → (x : A) × At l k x × (f x ≡ z)
  map_at {B} f [] k z at = let no : None ≡ Some z → ⊥ = λ e. cc in absurd (no at)
  map_at {B} f (y ∷ l) zero z at = let same : f y ≡ z = cc in (y, refl, same)
  map_at f (y ∷ l) (suc k) z at = map_at f l k z at

-- the tests of places and blocks tell them
pub place-only : (p r : Place) → is_place p r ≡ true → r ≡ p
place-only p r e =
    let t = and_parts (p.superblock == r.superblock) (p.class == r.class) e in
    let near : p.superblock ≡ r.superblock = eqb-true p.superblock r.superblock t.0 in let alike : p.class ≡ r.class = eqb-true p.class r.class t.1 in
    sym (λ k. record { superblock = near k; class = alike k })

-- a place passes the test for itself
pub place-passes : (p : Place) → is_place p p ≡ true
place-passes p = and_from (p.superblock == p.superblock) (p.class == p.class) (eq-eqb p.superblock p.superblock refl) (eq-eqb p.class p.class refl)

bool-only : (a b : Bool) → same_bool a b ≡ true → a ≡ b
bool-only true true e = refl
bool-only true false e = absurd (true≢false (sym e))
bool-only false true e = absurd (true≢false (sym e))
bool-only false false e = refl

bool-passes : (a : Bool) → same_bool a a ≡ true
bool-passes true = refl
bool-passes false = refl

-- only a block itself passes the test for it
pub block-only : (x y : Block) → is_block x y ≡ true → y ≡ x
block-only x y e =
    let t = and_parts (x.unit == y.unit) ((x.class == y.class) && same_bool x.fresh y.fresh) e in let t' = and_parts (x.class == y.class) (same_bool x.fresh y.fresh) t.1 in
    let units : x.unit ≡ y.unit = eqb-true x.unit y.unit t.0 in let classes : x.class ≡ y.class = eqb-true x.class y.class t'.0 in
    let alike : x.fresh ≡ y.fresh = bool-only x.fresh y.fresh t'.1 in
    sym (λ k. record { unit = units k; class = classes k; fresh = alike k })

-- a block passes the test for itself
pub block-passes : (x : Block) → is_block x x ≡ true
block-passes x =
    and_from (x.unit == x.unit) _ (eq-eqb x.unit x.unit refl) (and_from (x.class == x.class) (same_bool x.fresh x.fresh) (eq-eqb x.class x.class refl) (bool-passes x.fresh))

-- a sum over places, without one of them, is less by its weight
pub dropped-place : (p : Place) (f : Place → ℕ) (l : List Place) → Has p l → total f (dropped (is_place p) l) + f p ≡ total f l
dropped-place p = dropped-one (is_place p) p (place-only p) (place-passes p)

-- a sum over blocks, without one of them, is less by its weight
pub dropped-block : (x : Block) (f : Block → ℕ) (l : List Block) → Has x l → total f (dropped (is_block x) l) + f x ≡ total f l
dropped-block x = dropped-one (is_block x) x (block-only x) (block-passes x)

-- no member weighs more than all together
pub total-has : {A : Type 0} (f : A → ℕ) (l : List A) (x : A) → Has x l → f x ≤ total f l
total-has f l x has = total-member f l has.0 x has.1
