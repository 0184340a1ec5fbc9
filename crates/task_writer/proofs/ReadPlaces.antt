-- The place of a name is the position that it stands for.
use Rattle.task_writer.proofs.Vocabulary.{◌≡◌, ℕ, ◌<◌, Bool, true, Option, Some, None, unwrap_or, List, [], length, slice_get, refl, sym, ◌∙◌, ap, slice_get-get_or, same_bytes, AllDiffer, Sort, Variable, both, is_among, same-bytes, same_sort, is_variable, has_variable, place_where, place_of, place-where, same-name, same-sort-is, name_at, variable_names, option_map, any-at, same-sort}
use Rattle.task_writer.proofs.Named.{name-found}

-- where only what stands at one place passes the test, that is the place
pub place-is : {A : Type 0} (test : A → Bool) (xs : List A) (at : ℕ) (x : A) → slice_get xs at ≡ Some x → test x ≡ true
    → ((j : ℕ) (y : A) → slice_get xs j ≡ Some y → test y ≡ true → j ≡ at) → place_where test xs ≡ at
place-is test xs at x e t one = let r = place-where test xs (any-at test xs at x e t) in one (place_where test xs) r.0 r.1 r.2

-- ---- names

pub name-among : (names : List (List ℕ)) (at : ℕ) (name : List ℕ) → slice_get names at ≡ Some name → is_among names name ≡ true
name-among names at name e = any-at (same_bytes name) names at name e (same-bytes name)

pub name-place : (names : List (List ℕ)) → AllDiffer names → (at : ℕ) (name : List ℕ) → slice_get names at ≡ Some name → place_of names name ≡ at
name-place names differ at name e = place-is (same_bytes name) names at name e (same-bytes name)
    (λ j y f t. differ j at y f (e ∙ ap Some (same-name name y t)))

pub named-at : (names : List (List ℕ)) (at : ℕ) → at < length names → slice_get names at ≡ Some (name_at names at)
named-at names at l = let e = slice_get-get_or names at [] l in by (slice_get names at) _ e where
  by : (o : Option (List ℕ)) (name : List ℕ) → o ≡ Some name → o ≡ Some (unwrap_or o [])
  by o name e = rw e refl

pub position-place : (names : List (List ℕ)) → AllDiffer names → (at : ℕ) → at < length names → place_of names (name_at names at) ≡ at
position-place names differ at l = name-place names differ at (name_at names at) (named-at names at l)

pub position-among : (names : List (List ℕ)) (at : ℕ) → at < length names → is_among names (name_at names at) ≡ true
position-among names at l = name-among names at (name_at names at) (named-at names at l)

-- ---- variables

pub record StandsAt (variables : List Variable) (sort : Sort) (at : ℕ) : Type 0 where
  pub variable : Variable
  pub stands : slice_get variables at ≡ Some variable
  pub sort_is : variable.sort ≡ sort

pub stands-at : (variables : List Variable) (sort : Sort) (at : ℕ) → option_map (λ (v : Variable). v.sort) (slice_get variables at) ≡ Some sort → StandsAt variables sort at
stands-at variables sort at e = by (slice_get variables at) refl e where
  by : (o : Option Variable) → slice_get variables at ≡ o → option_map (λ (v : Variable). v.sort) o ≡ Some sort → StandsAt variables sort at
  by (Some v) f e = record { variable = v; stands = f; sort_is = cc }
  by None f e = cc

is-itself : (sort : Sort) (v : Variable) → v.sort ≡ sort → is_variable sort v.name v ≡ true
is-itself sort v e = rw (e, same-sort sort, same-bytes v.name) refl

variables-same : (m n : List ℕ) (a b : Sort) → m ≡ n → a ≡ b → ◌≡◌ {A = Variable} (record { name = m; sort = a }) (record { name = n; sort = b })
variables-same m n a b e f = rw (e, f) refl

only-itself : (sort : Sort) (v w : Variable) → v.sort ≡ sort → is_variable sort v.name w ≡ true → w ≡ v
only-itself sort v w e h = let b : (same_sort sort w.sort ≡ true) × (same_bytes v.name w.name ≡ true) = both _ _ h in
    variables-same w.name v.name w.sort v.sort (sym (same-name v.name w.name b.1)) (sym (same-sort-is sort w.sort b.0) ∙ sym e)

pub variable-known : (variables : List Variable) (sort : Sort) (at : ℕ) → StandsAt variables sort at → has_variable variables sort (name_at (variable_names variables) at) ≡ true
variable-known variables sort at s = let e = name-found (λ (v : Variable). v.name) variables at s.variable s.stands in
    rw e (any-at (is_variable sort s.variable.name) variables at s.variable s.stands (is-itself sort s.variable s.sort_is))

pub variable-place : (variables : List Variable) → AllDiffer variables → (sort : Sort) (at : ℕ) → StandsAt variables sort at
    → place_where (is_variable sort (name_at (variable_names variables) at)) variables ≡ at
variable-place variables differ sort at s = let e = name-found (λ (v : Variable). v.name) variables at s.variable s.stands in
    rw e (place-is (is_variable sort s.variable.name) variables at s.variable s.stands (is-itself sort s.variable s.sort_is)
    (λ j y f t. differ j at s.variable (f ∙ ap Some (only-itself sort s.variable y s.sort_is t)) s.stands))
