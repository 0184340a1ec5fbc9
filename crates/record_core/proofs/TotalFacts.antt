-- The laws of the sum over a list, by name.
use Rattle.std.proofs.Common.{◌≡◌, ◌≢◌, ◌∙◌, ℕ, zero, suc, ◌+◌, ◌*◌, ◌≤◌, Option, Some, None, List, [], ◌∷◌, ◌++◌, length, map, refl, ap, arith}
use Rattle.std.proofs.lemmas.List.Sums.{sum_by-cons}
use Rattle.std.specs.Prelude.{slice_get, slice_set, sum_by}
use Rattle.std.specs.List.{remove}
use Rattle.std.specs.Option.{option_map_or}
use Rattle.record_core.proofs.BelowFacts.{below-front}
use Rattle.record_core.specs.Sums.{total, below, without}

-- the same place holds one member
one_member : {X : Type 0} (f : X → ℕ) (x y : X) → Some x ≡ Some y → f x ≡ f y
one_member {X} f x y e = let go : Option X → ℕ = λ o. elim o [ None ↦ 0 | Some z ↦ f z ] in ap go e

-- an empty option has no value
pub none_there : {X : Type 0} (x : X) → None ≡ Some x → ⊥
none_there x e = cc

-- the sum is the library's
pub total-sum : {X : Type 0} (f : X → ℕ) (xs : List X) → total f xs ≡ sum_by f xs
total-sum f [] = refl
total-sum f (x ∷ xs) = omega (arith, total-sum f xs, sum_by-cons f x xs)

-- one member is replaced
pub total-set : {X : Type 0} (f : X → ℕ) (xs : List X) (place : ℕ) (old new : X) → slice_get xs place ≡ Some old → total f (slice_set xs place new) + f old ≡ total f xs + f new
total-set f [] place old new at = absurd (none_there old at)
total-set f (x ∷ xs) zero old new at = omega (arith, one_member f x old at)
total-set f (x ∷ xs) (suc place) old new at = omega (arith, total-set f xs place old new at)

-- the other positions keep their members
pub slice_get-set_other : {X : Type 0} (xs : List X) (place place' : ℕ) (new : X) → place ≢ place' → slice_get (slice_set xs place new) place' ≡ slice_get xs place'
slice_get-set_other [] place place' new differ = refl
slice_get-set_other (x ∷ xs) zero zero new differ = absurd (differ refl)
slice_get-set_other (x ∷ xs) zero (suc place') new differ = refl
slice_get-set_other (x ∷ xs) (suc place) zero new differ = refl
slice_get-set_other (x ∷ xs) (suc place) (suc place') new differ = slice_get-set_other xs place place' new (λ e. differ (ap suc e))

-- two members are replaced
pub total-set_two : {X : Type 0} (f : X → ℕ) (xs : List X) (place place' : ℕ) (old new old' new' : X) → place ≢ place' → slice_get xs place ≡ Some old → slice_get xs place' ≡ Some old'
    → total f (slice_set (slice_set xs place new) place' new') + f old + f old' ≡ total f xs + f new + f new'
total-set_two f xs place place' old new old' new' differ at at' =
    omega (arith, total-set f xs place old new at, total-set f (slice_set xs place new) place' old' new' (slice_get-set_other xs place place' new differ ∙ at'))

-- the sum of two lists, one after the other
pub total-append : {X : Type 0} (f : X → ℕ) (xs ys : List X) → total f (xs ++ ys) ≡ total f xs + total f ys
total-append f [] ys = omega arith
total-append f (x ∷ xs) ys = omega (arith, total-append f xs ys)

-- one member more at the end
pub total-snoc : {X : Type 0} (f : X → ℕ) (xs : List X) (x : X) → total f (xs ++ x ∷ []) ≡ total f xs + f x
total-snoc f xs x = omega (arith, total-append f xs (x ∷ []))

-- the members are first changed by a function
pub total-map : {X Y : Type 0} (f : Y → ℕ) (g : X → Y) (xs : List X) → total f (map g xs) ≡ total (λ x. f (g x)) xs
total-map f g [] = refl
total-map f g (x ∷ xs) = omega (arith, total-map f g xs)

-- one member is taken out
pub total-without : {X : Type 0} (f : X → ℕ) (xs : List X) (place : ℕ) (old : X) → slice_get xs place ≡ Some old → total f (without xs place) + f old ≡ total f xs
total-without f [] place old at = absurd (none_there old at)
total-without f (x ∷ xs) zero old at = omega (arith, one_member f x old at)
total-without f (x ∷ xs) (suc place) old at = omega (arith, total-without f xs place old at)

-- the list that is left is the library's
pub without-remove : {X : Type 0} (xs : List X) (place : ℕ) → without xs place ≡ remove xs place
without-remove [] zero = refl
without-remove [] (suc place) = refl
without-remove (x ∷ xs) zero = refl
without-remove (x ∷ xs) (suc place) = ap (λ rest. x ∷ rest) (without-remove xs place)

-- smaller members have a smaller sum
pub total-le : {X : Type 0} (f g : X → ℕ) (xs : List X) → ((place : ℕ) (x : X) → slice_get xs place ≡ Some x → f x ≤ g x) → total f xs ≤ total g xs
total-le f g [] each = omega arith
total-le f g (x ∷ xs) each = omega (arith, each 0 x refl, total-le f g xs (λ place. each (suc place)))

-- the same members have the same sum
pub total-same : {X : Type 0} (f g : X → ℕ) (xs : List X) → ((place : ℕ) (x : X) → slice_get xs place ≡ Some x → f x ≡ g x) → total f xs ≡ total g xs
total-same f g [] each = refl
total-same f g (x ∷ xs) each = omega (arith, each 0 x refl, total-same f g xs (λ place. each (suc place)))

-- members of at most so much sum up to at most so much times their number
pub total-bounded : {X : Type 0} (f : X → ℕ) (bound : ℕ) (xs : List X) → ((place : ℕ) (x : X) → slice_get xs place ≡ Some x → f x ≤ bound) → total f xs ≤ bound * length xs
total-bounded f bound [] each = omega arith
total-bounded f bound (x ∷ xs) each = omega (arith, each 0 x refl, total-bounded f bound xs (λ place. each (suc place)))

-- no member is above the sum
pub total-member : {X : Type 0} (f : X → ℕ) (xs : List X) (place : ℕ) (x : X) → slice_get xs place ≡ Some x → f x ≤ total f xs
total-member f xs place x at = omega (arith, total-without f xs place x at)

-- no two members together are above the sum
pub total-two_members : {X : Type 0} (f : X → ℕ) (xs : List X) (place place' : ℕ) (x x' : X) → place ≢ place' → slice_get xs place ≡ Some x → slice_get xs place' ≡ Some x' → f x + f x' ≤ total f xs
total-two_members f [] place place' x x' differ at at' = absurd (none_there x at)
total-two_members f (y ∷ xs) zero zero x x' differ at at' = absurd (differ refl)
total-two_members f (y ∷ xs) zero (suc place') x x' differ at at' = omega (arith, one_member f y x at, total-member f xs place' x' at')
total-two_members f (y ∷ xs) (suc place) zero x x' differ at at' = omega (arith, one_member f y x' at', total-member f xs place x at)
total-two_members f (y ∷ xs) (suc place) (suc place') x x' differ at at' = omega (arith, total-two_members f xs place place' x x' (λ e. differ (ap suc e)) at at')

-- the sum of sums
pub total-plus : {X : Type 0} (f g : X → ℕ) (xs : List X) → total (λ x. f x + g x) xs ≡ total f xs + total g xs
total-plus f g [] = refl
total-plus f g (x ∷ xs) = omega (arith, total-plus f g xs)

-- nothing sums up to nothing
pub total-zero : {X : Type 0} (xs : List X) → total (λ x. 0) xs ≡ 0
total-zero [] = refl
total-zero (x ∷ xs) = omega (arith, total-zero xs)

-- rows and columns have one sum
pub total-below : {X : Type 0} (f : X → ℕ → ℕ) (xs : List X) (n : ℕ) → total (λ x. below (f x) n) xs ≡ below (λ k. total (λ x. f x k) xs) n
total-below f xs zero = total-zero xs
total-below f xs (suc n) = omega (arith, total-plus (λ x. below (f x) n) (λ x. f x n) xs, total-below f xs n)

-- the sum over the positions
pub total-place : {X : Type 0} (f : X → ℕ) (xs : List X) → total f xs ≡ below (λ place. option_map_or f (slice_get xs place) 0) (length xs)
total-place f [] = refl
total-place f (x ∷ xs) = omega (arith, total-place f xs, below-front (λ place. option_map_or f (slice_get (x ∷ xs) place) 0) (length xs))
