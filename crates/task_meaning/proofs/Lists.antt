-- Lists with one more member at the end, and lists from a position on.
use Rattle.std.specs.Prelude.{◌≡◌, ℕ, zero, suc, ◌<◌, ◌≤◌, Option, Some, None, List, [], ◌∷◌, ◌++◌, map, length, drop, slice_get}
use Rattle.std.proofs.Common.{refl, ap, arith}
use Rattle.task_meaning.specs.Meant.{future_at}

-- a map of a list with one more at the end
pub map-snoc : {A B : Type 0} (f : A → B) (xs : List A) (x : A) → map f (xs ++ x ∷ []) ≡ map f xs ++ f x ∷ []
map-snoc f [] x = refl
map-snoc f (y ∷ ys) x = ap (λ zs. f y ∷ zs) (map-snoc f ys x)

-- a list with one more at the end is one longer
pub length-snoc : {A : Type 0} (xs : List A) (x : A) → length (xs ++ x ∷ []) ≡ suc (length xs)
length-snoc [] x = refl
length-snoc (y ∷ ys) x = ap suc (length-snoc ys x)

-- one more at the end leaves what stands before
pub future_at-snoc : {A : Type 0} (xs : List (Option A)) (x : Option A) (at : ℕ) → at < length xs → future_at (xs ++ x ∷ []) at ≡ future_at xs at
future_at-snoc [] x at h = absurd (omega (arith, h))
future_at-snoc (y ∷ ys) x zero h = refl
future_at-snoc (y ∷ ys) x (suc at) h = future_at-snoc ys x at (omega (arith, h))

-- what was put at the end stands there
pub future_at-last : {A : Type 0} (xs : List (Option A)) (x : Option A) → future_at (xs ++ x ∷ []) (length xs) ≡ x
future_at-last [] x = refl
future_at-last (y ∷ ys) x = future_at-last ys x

-- the list from a position on begins with what stands there, and past the end it is empty
pub drop-at : {A : Type 0} (xs : List A) (position : ℕ) (x : A) → slice_get xs position ≡ Some x → (drop position xs ≡ x ∷ drop (suc position) xs) × (position < length xs)
drop-at [] position x e = absurd (cc e)
drop-at {A} (y ∷ ys) zero x e = let s : y ≡ x = cc e in (ap (λ (z : A). z ∷ ys) s, omega arith)
drop-at (y ∷ ys) (suc position) x e = let (s, l) = drop-at ys position x e in (s, omega (arith, l))

-- past the end of a list nothing is left
pub drop-past : {A : Type 0} (xs : List A) (position : ℕ) → length xs ≤ position → drop position xs ≡ []
drop-past [] zero l = refl
drop-past [] (suc position) l = refl
drop-past (y ∷ ys) zero l = absurd (omega (arith, l))
drop-past (y ∷ ys) (suc position) l = drop-past ys position (omega (arith, l))

-- where nothing stands the list has ended
pub length-none : {A : Type 0} (xs : List A) (position : ℕ) → slice_get xs position ≡ None → length xs ≤ position
length-none [] position e = omega arith
length-none (y ∷ ys) zero e = absurd (cc e)
length-none (y ∷ ys) (suc position) e = let l : length ys ≤ position = length-none ys position e in omega (arith, l)

-- inside a list something stands
pub get-inside : {A : Type 0} (xs : List A) (position : ℕ) → position < length xs → (x : A) × (slice_get xs position ≡ Some x)
get-inside [] position l = absurd (omega (arith, l))
get-inside (y ∷ ys) zero l = (y, refl)
get-inside (y ∷ ys) (suc position) l = get-inside ys position (omega (arith, l))
