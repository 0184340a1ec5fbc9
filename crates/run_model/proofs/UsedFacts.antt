-- Which blocks are in use, said by who names a task, and the list of them.
use Rattle.std.proofs.Common.{◌≡◌, ◌↔◌, ◌⊎◌, ℕ, zero, suc, Bool, true, false, nat_eq, ◌||◌, Option, Some, None, List, [], ◌∷◌, slice_get, refl, sym, ◌∙◌, ap, inl, inr, ⊎_elim, eq-eqb}
use Rattle.std.specs.Prelude.{IsSome, IsTrue}
use Rattle.std.specs.List.{list_any}
use Rattle.std.proofs.lemmas.Bool.{false≢true, eqb-true}
use Rattle.std.proofs.lemmas.Option.{none-some, same_Some}
use Rattle.task_syntax.specs.Facts.{has}
use Rattle.task_meaning.specs.Meant.{future_at}
use Rattle.frame_code.specs.Words.{OfKind, OfMembers}
use Rattle.record_core.specs.Numbers.{flat, found}
use Rattle.run_model.specs.State.{Body, RootWord, Named, Refused, Skipped}
use Rattle.run_model.specs.Placing.{is_task, body_names, task_names, root_names, is_open, is_in_use}
use Rattle.run_model.proofs.NumbersInvariant.{BodyNames}

-- a test that some member passes
pub any_true : {A : Type 0} (test : A → Bool) (xs : List A) → list_any test xs ≡ true → (at : ℕ) × (x : A) × (slice_get xs at ≡ Some x) × (test x ≡ true)
any_true test [] e = absurd (false≢true e)
any_true {A = A} test (x ∷ xs) e = by (test x) refl (any_true test xs) e
  where
    by : (b : Bool) → test x ≡ b → (list_any test xs ≡ true → (at : ℕ) × (y : A) × (slice_get xs at ≡ Some y) × (test y ≡ true)) → (b || list_any test xs) ≡ true → (at : ℕ) × (y : A) × (slice_get (x ∷ xs) at ≡ Some y) × (test y ≡ true)
    by true here rest h = (0, x, refl, here)
    by false here rest h = let (at, y, there, passes) = rest h in (suc at, y, there, passes)

-- a list with a member that passes has one that passes
pub any_from : {A : Type 0} (test : A → Bool) (xs : List A) (at : ℕ) (x : A) → slice_get xs at ≡ Some x → test x ≡ true → list_any test xs ≡ true
any_from test [] at x there passes = absurd (none-some x there)
any_from test (y ∷ xs) zero x there passes = ap (λ b. b || list_any test xs) (ap test (same_Some y x there) ∙ passes)
any_from test (y ∷ xs) (suc at) x there passes = by (test y) (any_from test xs at x there passes)
  where
    by : (b : Bool) → list_any test xs ≡ true → (b || list_any test xs) ≡ true
    by true rest = refl
    by false rest = rest

or_true : (a b : Bool) → (a || b) ≡ true → (a ≡ true) ⊎ (b ≡ true)
or_true true b e = inl refl
or_true false b e = inr e

or_left : (a b : Bool) → a ≡ true → (a || b) ≡ true
or_left true b e = refl
or_left false b e = absurd (false≢true e)

or_right : (a b : Bool) → b ≡ true → (a || b) ≡ true
or_right true b e = refl
or_right false b e = e

-- task u is unfinished, or a root or an unfinished task names it
abbrev pub Uses : List RootWord → List (Option Body) → ℕ → Type 0
Uses roots bodies u =
    IsSome (found bodies u) ⊎ (((at : ℕ) × (slice_get roots at ≡ Some (Named u))) ⊎ ((t : ℕ) × (body : Body) × (found bodies t ≡ Some body) × BodyNames body u))

-- the tests tell who is named
future_named : (futures : List (Option ℕ)) (u : ℕ) → list_any (is_task u) futures ≡ true ↔ ((x : ℕ) × (future_at futures x ≡ Some u))
future_named futures u = (there futures, back futures)
  where
    is_u : (o : Option ℕ) → is_task u o ≡ true → o ≡ Some u
    is_u None e = absurd (false≢true e)
    is_u (Some v) e = ap Some (eqb-true v u e)

    there : (futures : List (Option ℕ)) → list_any (is_task u) futures ≡ true → (x : ℕ) × (future_at futures x ≡ Some u)
    there [] e = absurd (false≢true e)
    there (f ∷ fs) e = let (at, o, get, passes) = any_true (is_task u) (f ∷ fs) e in (at, read (f ∷ fs) at o get ∙ is_u o passes)
      where
        read : (fs : List (Option ℕ)) (at : ℕ) (o : Option ℕ) → slice_get fs at ≡ Some o → future_at fs at ≡ o
        read [] at o g = absurd (none-some o g)
        read (f ∷ fs) zero o g = same_Some f o g
        read (f ∷ fs) (suc at) o g = read fs at o g

    get : (fs : List (Option ℕ)) (x : ℕ) → future_at fs x ≡ Some u → slice_get fs x ≡ Some (Some u)
    get [] x e = absurd (none-some u e)
    get (f ∷ fs) zero e = ap Some e
    get (f ∷ fs) (suc x) e = get fs x e

    back : (futures : List (Option ℕ)) → ((x : ℕ) × (future_at futures x ≡ Some u)) → list_any (is_task u) futures ≡ true
    back futures (x, e) = any_from (is_task u) futures x (Some u) (get futures x e) (eq-eqb u u refl)

-- the test of a body says who is named
pub body_named : (body : Body) (u : ℕ) → body_names u body ≡ true ↔ BodyNames body u
body_named (OfKind q) u = future_named q.futures u
body_named (OfMembers members next) u = (there, back)
  where
    there : has u members ≡ true → (at : ℕ) × (slice_get members at ≡ Some u)
    there e = let (at, v, get, passes) = any_true (nat_eq u) members e in (at, get ∙ sym (ap Some (eqb-true u v passes)))

    back : ((at : ℕ) × (slice_get members at ≡ Some u)) → has u members ≡ true
    back (at, e) = any_from (nat_eq u) members at u e (eq-eqb u u refl)

-- the test of a root word says who is named
pub root_named_so : (word : RootWord) (u : ℕ) → root_names u word ≡ true ↔ (word ≡ Named u)
root_named_so (Named t) u = (λ e. ap Named (eqb-true t u e), λ e. eq-eqb t u (same e))
  where
    same : Named t ≡ Named u → t ≡ u
    same e = cc
root_named_so (Refused tag) u = (λ e. absurd (false≢true e), λ e. absurd (differ e))
  where
    differ : Refused tag ≡ Named u → ⊥
    differ e = cc
root_named_so (Skipped at tag) u = (λ e. absurd (false≢true e), λ e. absurd (differ e))
  where
    differ : Skipped at tag ≡ Named u → ⊥
    differ e = cc

open_so : (o : Option Body) → is_open o ≡ true → IsSome o
open_so None e = absurd (false≢true e)
open_so (Some body) e = refl

open_from : (o : Option Body) → IsSome o → is_open o ≡ true
open_from None e = absurd (false≢true e)
open_from (Some body) e = refl

-- in use by the tests is in use by the names
pub in_use : (roots : List RootWord) (bodies : List (Option Body)) (u : ℕ) → IsTrue (is_in_use roots bodies u) ↔ Uses roots bodies u
in_use roots bodies u = (there, back)
  where
    by_body : (at : ℕ) (o : Option Body) → slice_get bodies at ≡ Some o → task_names u o ≡ true → (t : ℕ) × (body : Body) × (found bodies t ≡ Some body) × BodyNames body u
    by_body at None get e = absurd (false≢true e)
    by_body at (Some body) get e = (suc at, body, ap flat get, (body_named body u).0 e)

    there : is_in_use roots bodies u ≡ true → Uses roots bodies u
    there e =
        ⊎_elim (λ h. inl (open_so (found bodies u) h))
        (λ h. inr (⊎_elim (λ g. let (at, word, get, passes) = any_true (root_names u) roots g in inl (at, get ∙ ap Some ((root_named_so word u).0 passes)))
        (λ g. let (at, o, get, passes) = any_true (task_names u) bodies g in inr (by_body at o get passes)) (or_true (list_any (root_names u) roots) (list_any (task_names u) bodies) h)))
        (or_true (is_open (found bodies u)) (list_any (root_names u) roots || list_any (task_names u) bodies) e)

    body_back : (t : ℕ) (body : Body) → found bodies t ≡ Some body → BodyNames body u → list_any (task_names u) bodies ≡ true
    body_back zero body e named = absurd (none-some body e)
    body_back (suc at) body e named = by (slice_get bodies at) refl e
      where
        by : (o : Option (Option Body)) → slice_get bodies at ≡ o → flat o ≡ Some body → list_any (task_names u) bodies ≡ true
        by None get f = absurd (none-some body f)
        by (Some o) get f = any_from (task_names u) bodies at o get (ap (task_names u) f ∙ (body_named body u).1 named)

    back : Uses roots bodies u → is_in_use roots bodies u ≡ true
    back (inl some) = or_left (is_open (found bodies u)) (list_any (root_names u) roots || list_any (task_names u) bodies) (open_from (found bodies u) some)
    back (inr (inl (at, get))) =
        or_right (is_open (found bodies u)) (list_any (root_names u) roots || list_any (task_names u) bodies)
        (or_left (list_any (root_names u) roots) (list_any (task_names u) bodies) (any_from (root_names u) roots at (Named u) get ((root_named_so (Named u) u).1 refl)))
    back (inr (inr (t, body, e, named))) =
        or_right (is_open (found bodies u)) (list_any (root_names u) roots || list_any (task_names u) bodies)
        (or_right (list_any (root_names u) roots) (list_any (task_names u) bodies) (body_back t body e named))
