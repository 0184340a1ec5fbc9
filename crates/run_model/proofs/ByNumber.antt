-- Lists whose members are numbered from 1 on: one more at the end, and another one at a number.
use Rattle.std.proofs.Common.{◌≡◌, ◌≢◌, ◌⊎◌, ℕ, zero, suc, ◌<◌, ◌≤◌, Option, Some, None, List, [], ◌∷◌, ◌++◌, length, slice_get, refl, sym, ◌∙◌, ap, inl, inr, ⊎_elim, arith}
use Rattle.std.specs.Prelude.{slice_set, IsSome}
use Rattle.std.proofs.lemmas.Bool.{cases_eq, false≢true}
use Rattle.std.proofs.lemmas.Option.{none-some, same_Some, slice_get_within}
use Rattle.record_core.specs.Numbers.{by_number, put_number, flat, found}

-- a list with one member more at its end is one longer
pub length_snoc : {A : Type 0} (xs : List A) (x : A) → length (xs ++ x ∷ []) ≡ suc (length xs)
length_snoc [] x = refl
length_snoc (y ∷ xs) x = ap suc (length_snoc xs x)

-- a list keeps its length where another member is put at a number
pub length_put : {A : Type 0} (xs : List A) (n : ℕ) (x : A) → length (put_number xs n x) ≡ length xs
length_put xs zero x = refl
length_put xs (suc n) x = length_set xs n x
  where
    length_set : {A : Type 0} (xs : List A) (n : ℕ) (x : A) → length (slice_set xs n x) ≡ length xs
    length_set [] n x = refl
    length_set (y ∷ xs) zero x = refl
    length_set (y ∷ xs) (suc n) x = ap suc (length_set xs n x)

-- a number that has a member is in range, and one in range has a member
pub number_within : {A : Type 0} (xs : List A) (n : ℕ) (x : A) → by_number xs n ≡ Some x → (1 ≤ n) × (n ≤ length xs)
number_within xs zero x e = absurd (none-some x e)
number_within xs (suc n) x e = let within = slice_get_within xs n x e in (omega arith, omega arith)

-- at each number up to the length stands a member
pub member_at : {A : Type 0} (xs : List A) (n : ℕ) → 1 ≤ n → n ≤ length xs → (x : A) × (by_number xs n ≡ Some x)
member_at xs zero some within = absurd (omega arith)
member_at xs (suc n) some within = there xs n (omega arith)
  where
    there : {A : Type 0} (xs : List A) (n : ℕ) → n < length xs → (x : A) × (slice_get xs n ≡ Some x)
    there [] n lt = absurd (omega arith)
    there (y ∷ xs) zero lt = (y, refl)
    there (y ∷ xs) (suc n) lt = there xs n (omega arith)

-- one more at the end: the new number has it, and each other number what it had
pub snoc_new : {A : Type 0} (xs : List A) (x : A) → by_number (xs ++ x ∷ []) (suc (length xs)) ≡ Some x
snoc_new [] x = refl
snoc_new (y ∷ xs) x = snoc_new xs x

-- at each number but the new one stands what stood there
pub snoc_other : {A : Type 0} (xs : List A) (x : A) (n : ℕ) → n ≢ suc (length xs) → by_number (xs ++ x ∷ []) n ≡ by_number xs n
snoc_other xs x zero differ = refl
snoc_other xs x (suc n) differ = there x xs n (λ e. differ (ap suc e))
  where
    there : {A : Type 0} (x : A) (xs : List A) (n : ℕ) → n ≢ length xs → slice_get (xs ++ x ∷ []) n ≡ slice_get xs n
    there x [] zero differ = absurd (differ refl)
    there x [] (suc n) differ = refl
    there x (y ∷ xs) zero differ = refl
    there x (y ∷ xs) (suc n) differ = there x xs n (λ e. differ (ap suc e))

-- a member stands where it stood, with one more at the end
pub snoc_old : {A : Type 0} (xs : List A) (x : A) (n : ℕ) (y : A) → by_number xs n ≡ Some y → by_number (xs ++ x ∷ []) n ≡ Some y
snoc_old xs x n y e = let within = number_within xs n y e in snoc_other xs x n (λ same. absurd (omega (arith, same))) ∙ e

-- what stands at a number is an old member, or the new one at its number
pub snoc_cases : {A : Type 0} (xs : List A) (x : A) (n : ℕ) (y : A) → by_number (xs ++ x ∷ []) n ≡ Some y → (by_number xs n ≡ Some y) ⊎ ((n ≡ suc (length xs)) × (y ≡ x))
snoc_cases xs x n y e =
    ⊎_elim
    (λ same. inr (same, same_Some y x (sym e ∙ ap (by_number (xs ++ x ∷ [])) same ∙ snoc_new xs x)))
    (λ differ. inl (sym (snoc_other xs x n differ) ∙ e))
    (cases_eq n (suc (length xs)))

-- another one at a number
pub put_same : {A : Type 0} (xs : List A) (n : ℕ) (old x : A) → by_number xs n ≡ Some old → by_number (put_number xs n x) n ≡ Some x
put_same xs zero old x e = absurd (none-some old e)
put_same xs (suc n) old x e = there xs n old x e
  where
    there : {A : Type 0} (xs : List A) (n : ℕ) (old x : A) → slice_get xs n ≡ Some old → slice_get (slice_set xs n x) n ≡ Some x
    there [] n old x e = absurd (none-some old e)
    there (y ∷ xs) zero old x e = refl
    there (y ∷ xs) (suc n) old x e = there xs n old x e

-- at each other number stands what stood there
pub put_other : {A : Type 0} (xs : List A) (n m : ℕ) (x : A) → m ≢ n → by_number (put_number xs n x) m ≡ by_number xs m
put_other xs zero m x differ = refl
put_other xs (suc n) zero x differ = refl
put_other xs (suc n) (suc m) x differ = there xs n m x (λ e. differ (ap suc e))
  where
    there : {A : Type 0} (xs : List A) (n m : ℕ) (x : A) → m ≢ n → slice_get (slice_set xs n x) m ≡ slice_get xs m
    there [] n m x differ = refl
    there (y ∷ xs) zero zero x differ = absurd (differ refl)
    there (y ∷ xs) zero (suc m) x differ = refl
    there (y ∷ xs) (suc n) zero x differ = refl
    there (y ∷ xs) (suc n) (suc m) x differ = there xs n m x (λ e. differ (ap suc e))

-- the same for lists that may have nothing at a number
pub found_new : {A : Type 0} (xs : List (Option A)) (o : Option A) (n : ℕ) → n ≡ suc (length xs) → found (xs ++ o ∷ []) n ≡ o
found_new xs o n e = ap (found (xs ++ o ∷ [])) e ∙ ap flat (snoc_new xs o)

-- what is found at each number but the new one is what was found
pub found_other : {A : Type 0} (xs : List (Option A)) (o : Option A) (n : ℕ) → n ≢ suc (length xs) → found (xs ++ o ∷ []) n ≡ found xs n
found_other xs o n differ = ap flat (snoc_other xs o n differ)

-- what was put at a number is found there
pub found_put : {A : Type 0} (xs : List (Option A)) (n : ℕ) (o : Option A) → 1 ≤ n → n ≤ length xs → found (put_number xs n o) n ≡ o
found_put xs n o some within = let (old, there) = member_at xs n some within in ap flat (put_same xs n old o there)

-- what is found at each other number is what was found
pub found_put_other : {A : Type 0} (xs : List (Option A)) (n m : ℕ) (o : Option A) → m ≢ n → found (put_number xs n o) m ≡ found xs m
found_put_other xs n m o differ = ap flat (put_other xs n m o differ)

-- where something is found, the number is in range
pub found_within : {A : Type 0} (xs : List (Option A)) (n : ℕ) (x : A) → found xs n ≡ Some x → (1 ≤ n) × (n ≤ length xs)
found_within {A = A} xs n x e = by (by_number xs n) refl e
  where
    by : (o : Option (Option A)) → by_number xs n ≡ o → flat o ≡ Some x → (1 ≤ n) × (n ≤ length xs)
    by None there f = absurd (none-some x f)
    by (Some y) there f = number_within xs n y there

-- past the end nothing is found
pub found_past : {A : Type 0} (xs : List (Option A)) (n : ℕ) → length xs < n → found xs n ≡ None
found_past {A = A} xs n past = by (found xs n) refl
  where
    by : (o : Option A) → found xs n ≡ o → o ≡ None
    by None e = refl
    by (Some x) e = absurd (omega (arith, (found_within xs n x e).1))

-- some or none
pub has_some : {A : Type 0} (o : Option A) → IsSome o → (x : A) × (o ≡ Some x)
has_some None some = absurd (false≢true some)
has_some (Some x) some = (x, refl)

-- what was found is found still, with one more at the end
pub found_old : {A : Type 0} (xs : List (Option A)) (o : Option A) (n : ℕ) (x : A) → found xs n ≡ Some x → found (xs ++ o ∷ []) n ≡ Some x
found_old xs o n x e = let within = found_within xs n x e in found_other xs o n (λ same. absurd (omega (arith, within.1, same))) ∙ e

-- an empty list has nothing at any number
pub none_of_empty : {A : Type 0} (n : ℕ) → by_number {A = A} [] n ≡ None
none_of_empty zero = refl
none_of_empty (suc n) = refl
