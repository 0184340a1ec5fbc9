-- The place of a name that is given.
use Rattle.task_reader.proofs.Vocabulary.{◌≡◌, ℕ, ◌+◌, ◌<◌, add-one, Bool, true, false, ◌||◌, cond, Some, List, [], ◌∷◌, length, slice_get, refl, sym, ◌∙◌, ap, slice_get_within, list_any, same_text, same_bytes, IsNumberAt, IsFutureAt, Sort, Number, Future, Variable, Kind, both, is_among, same_sort, is_variable, has_variable, place_where, place_of, number_place, future_place, some-same}

place-step : {A : Type 0} (test : A → Bool) (a : A) (more : List A) (b : Bool) → test a ≡ b
    → (list_any test more ≡ true → (x : A) × (slice_get more (place_where test more) ≡ Some x) × (test x ≡ true))
    → (b || list_any test more) ≡ true → (x : A) × (slice_get (a ∷ more) (cond b 0 (place_where test more + 1)) ≡ Some x) × (test x ≡ true)
place-step test a more true e further h = (a, refl, e)
place-step test a more false e further h = let r = further h in (r.0, rw add-one r.1, r.2)

-- where one passes the test, one that passes stands at the place
pub place-where : {A : Type 0} (test : A → Bool) (xs : List A) → list_any test xs ≡ true
    → (x : A) × (slice_get xs (place_where test xs) ≡ Some x) × (test x ≡ true)
place-where test [] h = cc
place-where test (a ∷ more) h = place-step test a more (test a) refl (place-where test more) h

-- the place of a given name is in range
pub place-within : (names : List (List ℕ)) (name : List ℕ) → is_among names name ≡ true → place_of names name < length names
place-within names name h = let r = place-where (same_bytes name) names h in slice_get_within names (place_of names name) r.0 r.1

pub same-name : (a b : List ℕ) → same_bytes a b ≡ true → a ≡ b
same-name a b h = same_text a b (sym h)

same-sort : (a b : Sort) → same_sort a b ≡ true → b ≡ a
same-sort Number Number h = refl
same-sort Future Future h = refl
same-sort Number Future h = cc
same-sort Future Number h = cc

-- what stands at the place of a variable's name
pub record IsThatVariable (sort : Sort) (name : List ℕ) (variables : List Variable) (at : ℕ) : Type 0 where
  pub variable : Variable
  pub stands : slice_get variables at ≡ Some variable
  pub sort_is : variable.sort ≡ sort
  pub name_is : name ≡ variable.name

pub variable-place : (sort : Sort) (name : List ℕ) (variables : List Variable) → has_variable variables sort name ≡ true
    → IsThatVariable sort name variables (place_where (is_variable sort name) variables)
variable-place sort name variables h = let r = place-where (is_variable sort name) variables h in
    let b : (same_sort sort r.0.sort ≡ true) × (same_bytes name r.0.name ≡ true) = both _ _ r.2 in
    record { variable = r.0; stands = r.1; sort_is = same-sort sort r.0.sort b.0; name_is = same-name name r.0.name b.1 }

pub number-at : (kind : Kind) (name : List ℕ) → has_variable kind.variables Number name ≡ true → IsNumberAt kind (number_place kind.variables name)
number-at kind name h = let v = variable-place Number name kind.variables h in rw v.stands (ap Some v.sort_is)

pub future-at : (kind : Kind) (name : List ℕ) → has_variable kind.variables Future name ≡ true → IsFutureAt kind (future_place kind.variables name)
future-at kind name h = let v = variable-place Future name kind.variables h in rw v.stands (ap Some v.sort_is)

-- two names of futures at one place are one
pub future-place-same : (variables : List Variable) (a b : List ℕ) → has_variable variables Future a ≡ true → has_variable variables Future b ≡ true
    → future_place variables a ≡ future_place variables b → a ≡ b
future-place-same variables a b g h e = let v = variable-place Future a variables g in
    let w = variable-place Future b variables h in
    let s : v.variable ≡ w.variable = some-same v.variable w.variable (sym v.stands ∙ (ap (λ i. slice_get variables i) e ∙ w.stands)) in
    v.name_is ∙ (ap (λ (x : Variable). x.name) s ∙ sym w.name_is)
