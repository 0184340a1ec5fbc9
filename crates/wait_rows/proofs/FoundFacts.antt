-- What is found in lists that lost a member, or of which one has changed.
use Rattle.std.proofs.Common.{◌≡◌, ◌≢◌, ◌∙◌, ℕ, zero, suc, ◌+◌, ◌<◌, ◌≤◌, ◌==◌, Bool, true, false, cond, Option, Some, List, [], ◌∷◌, ◌++◌, length, map, refl, sym, ap, arith}
use Rattle.std.specs.Prelude.{slice_index_or}
use Rattle.std.proofs.lemmas.Bool.{eqb-true, eq-eqb, ne_eqb}
use Rattle.std.proofs.lemmas.List.{map-append}
use Rattle.record_core.specs.Counting.{At, Has, one_if, passing, times, dropped}
use Rattle.record_core.proofs.TotalFacts.{none_there, total-append}
use Rattle.table_core.specs.Holdings.{Waiter, Run, Done}
use Rattle.table_core.specs.WaitViews.{is_waiter_at, is_run_at, link_in, close_in}
use Rattle.table_core.proofs.ListFacts.{same_some}
use Rattle.step_table.specs.Lookups.{first_by, run_in, done_in}

module _ {A : Type 0} where
  -- a member stands before the end
  pub at-before : (l : List A) (k : ℕ) (x : A) → At l k x → k < length l
  at-before [] k x at = absurd (none_there x at)
  at-before (y ∷ l) zero x at = omega arith
  at-before (y ∷ l) (suc k) x at = let less = at-before l k x at in omega (arith, less)

  -- the member that was read
  pub at-index : (l : List A) (k : ℕ) (x : A) → k < length l → x ≡ slice_index_or l k x → At l k x
  at-index [] k x low e = absurd (omega (arith, low))
  at-index (y ∷ l) zero x low e = ap Some (sym e)
  at-index (y ∷ l) (suc k) x low e = at-index l k x (omega (arith, low)) e

  -- there is a member at each place before the end
  pub at-some : (l : List A) (k : ℕ) → k < length l → (x : A) × At l k x
  at-some [] k low = absurd (omega (arith, low))
  at-some (y ∷ l) zero low = (y, refl)
  at-some (y ∷ l) (suc k) low = at-some l k (omega (arith, low))

  -- it stands there also where one more comes after it
  pub at-front : (l : List A) (k : ℕ) (x last : A) → At l k x → At (l ++ last ∷ []) k x
  at-front [] k x last at = absurd (none_there x at)
  at-front (y ∷ l) zero x last at = at
  at-front (y ∷ l) (suc k) x last at = at-front l k x last at

  -- the one that comes after all
  pub at-last : (l : List A) (x : A) → At (l ++ x ∷ []) (length l) x
  at-last [] x = refl
  at-last (y ∷ l) x = at-last l x

  -- a number is as often there as before, and once more where it is that of the one that came
  pub times-last : (f : A → ℕ) (y : ℕ) (l : List A) (x : A) → times y (map f (l ++ x ∷ [])) ≡ times y (map f l) + one_if (f x == y)
  times-last f y l x = ap (times y) (map-append f l (x ∷ [])) ∙ total-append (λ (n : ℕ). one_if (n == y)) (map f l) (f x ∷ []) ∙ last
    where
      last : times y (map f l) + (one_if (f x == y) + 0) ≡ times y (map f l) + one_if (f x == y)
      last = omega arith

  -- the number of a member is counted
  pub times-at : (f : A → ℕ) (l : List A) (k : ℕ) (x : A) → At l k x → 1 ≤ times (f x) (map f l)
  times-at f [] k x at = absurd (none_there x at)
  times-at f (y ∷ l) zero x at =
      let one : one_if (f y == f x) ≡ 1 = ap one_if (eq-eqb (f y) (f x) (ap f (same_some y x at))) in
      omega (arith, one)
  times-at f (y ∷ l) (suc k) x at = let later = times-at f l k x at in omega (arith, later)

  -- where a member passes, there is a first one
  pub first-some : (p : A → Bool) (l : List A) → 1 ≤ passing p l → (x : A) × (first_by p l ≡ Some x)
  first-some p [] some = absurd (omega (arith, some))
  first-some p (y ∷ l) some = by (p y) some (first-some p l)
    where
      by : (b : Bool) → 1 ≤ one_if b + passing p l → (1 ≤ passing p l → (x : A) × (first_by p l ≡ Some x)) → (x : A) × (cond b (Some y) (first_by p l) ≡ Some x)
      by true some later = (y, refl)
      by false some later = later (omega (arith, some))

  -- a member of what is left was one before
  pub has-undropped : (p : A → Bool) (l : List A) (k : ℕ) (y : A) → At (dropped p l) k y → Has y l
  has-undropped p [] k y at = absurd (none_there y at)
  has-undropped p (x ∷ l) k y at = by (p x) k at (λ j there. has-undropped p l j y there)
    where
      by : (b : Bool) (k : ℕ) → At (cond b l (x ∷ dropped p l)) k y → ((j : ℕ) → At (dropped p l) j y → Has y l) → Has y (x ∷ l)
      by true k at later = (suc k, at)
      by false zero at later = (0, at)
      by false (suc k) at later = let before = later k at in (suc before.0, before.1)

-- y was a waiter before, under its unit and number
pub record Was (l : List Waiter) (y : Waiter) : Type 0 where
  pub z : Waiter
  pub there : Has z l
  pub unit_is : z.unit ≡ y.unit
  pub number_is : z.number ≡ y.number

-- each waiter of a list in which one was linked
pub was-linked : (w word : ℕ) (l : List Waiter) (k : ℕ) (y : Waiter) → At (link_in w word l) k y → Was l y
was-linked w word [] k y at = absurd (none_there y at)
was-linked w word (x ∷ l) k y at = by (is_waiter_at w x) k at (λ j there. was-linked w word l j y there)
  where
    by : (b : Bool) (k : ℕ) → At (cond b (record x { linked = Some word } ∷ l) (x ∷ link_in w word l)) k y → ((j : ℕ) → At (link_in w word l) j y → Was l y) → Was (x ∷ l) y
    by true zero at later =
        let same : record x { linked = Some word } ≡ y = same_some (record x { linked = Some word }) y at in
        record { z = x; there = (0, refl); unit_is = ap (λ (q : Waiter). q.unit) same; number_is = ap (λ (q : Waiter). q.number) same }
    by true (suc k) at later = record { z = y; there = (suc k, at); unit_is = refl; number_is = refl }
    by false zero at later = record { z = y; there = (0, at); unit_is = refl; number_is = refl }
    by false (suc k) at later = let is = later k at in record { z = is.z; there = (suc is.there.0, is.there.1); unit_is = is.unit_is; number_is = is.number_is }

-- a run at another unit is found as before
pub run-kept : (u w : ℕ) → w ≢ u → (l : List Run) → run_in u (dropped (is_run_at w) l) ≡ run_in u l
run-kept u w ne [] = refl
run-kept u w ne (x ∷ l) = by (x.unit == w) refl (run-kept u w ne l)
  where
    by : (b : Bool) → (x.unit == w) ≡ b → run_in u (dropped (is_run_at w) l) ≡ run_in u l → run_in u (cond b l (x ∷ dropped (is_run_at w) l)) ≡ run_in u (x ∷ l)
    by true is rest = sym (ap (λ (b : Bool). cond b (Some x) (run_in u l)) (ne_eqb x.unit u (λ e. ne (sym (eqb-true x.unit w is) ∙ e))))
    by false is rest = ap (λ (o : Option Run). cond (x.unit == u) (Some x) o) rest

-- a done record at another unit is found as before
pub done-kept : (u w : ℕ) → w ≢ u → (l : List Done) → done_in u (close_in w l) ≡ done_in u l
done-kept u w ne [] = refl
done-kept u w ne (x ∷ l) = by (x.unit == w) refl (done-kept u w ne l)
  where
    by : (b : Bool) → (x.unit == w) ≡ b → done_in u (close_in w l) ≡ done_in u l → done_in u (cond b (record x { closed = true } ∷ l) (x ∷ close_in w l)) ≡ done_in u (x ∷ l)
    by true is rest =
        let other : (x.unit == u) ≡ false = ne_eqb x.unit u (λ e. ne (sym (eqb-true x.unit w is) ∙ e)) in
        ap (λ (b : Bool). cond b (Some (record x { closed = true })) (done_in u l)) other ∙ sym (ap (λ (b : Bool). cond b (Some x) (done_in u l)) other)
    by false is rest = ap (λ (o : Option Done). cond (x.unit == u) (Some x) o) rest
