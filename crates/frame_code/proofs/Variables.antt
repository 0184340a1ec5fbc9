-- Where the words of the variables stand, and what a word changes.
use Rattle.std.proofs.Common.{◌≡◌, ◌≢◌, ℕ, zero, suc, ◌+◌, ◌<◌, ◌≤◌, Some, List, [], ◌∷◌, length, take, slice_get, slice_index, slice_set, refl, ◌∙◌, ap, arith}
use Rattle.std.specs.Option.{option_map}
use Rattle.task_syntax.specs.declared.program.Sort.{Sort}
use Rattle.task_syntax.specs.declared.program.Sort.TheVariants.{Number, Future}
use Rattle.task_syntax.specs.declared.program.Variable.{Variable}
use Rattle.task_meaning.specs.Meant.{future_at}
use Rattle.frame_code.specs.Words.{one_if_number, one_if_future, number_count, future_count, unit_named, number_if, numbers_from, future_if, futures_from}
use Rattle.frame_code.specs.Line.{places_from}

-- the variable at a position is of this sort
abbrev pub IsSort : List Variable → ℕ → Sort → Type 0
IsSort vs x s = option_map (λ (v : Variable). v.sort) (slice_get vs x) ≡ Some s

pub sort-within : (vs : List Variable) (x : ℕ) (s : Sort) → IsSort vs x s → x < length vs
sort-within [] x s e = cc
sort-within (v ∷ vs) zero s e = omega arith
sort-within (v ∷ vs) (suc x) s e = omega (arith, sort-within vs x s e)

-- the place of the word of the variable at a position
pub places-at : (place : ℕ) (vs : List Variable) (x : ℕ) → x < length vs → slice_index (places_from place vs) x ≡ place + number_count (take x vs)
places-at place [] x h = absurd (omega (arith, h))
places-at place (v ∷ vs) zero h = omega arith
places-at place (v ∷ vs) (suc x) h = let e = places-at (place + one_if_number v.sort) vs x (omega (arith, h)) in e ∙ omega arith

pub length-places : (place : ℕ) (vs : List Variable) → length (places_from place vs) ≡ length vs
length-places place [] = refl
length-places place (v ∷ vs) = ap suc (length-places (place + one_if_number v.sort) vs)

pub length-numbers : (w : ℕ → ℕ) (place : ℕ) (vs : List Variable) → length (numbers_from w place vs) ≡ length vs
length-numbers w place [] = refl
length-numbers w place (v ∷ vs) = ap suc (length-numbers w (place + one_if_number v.sort) vs)

pub length-futures : (w : ℕ → ℕ) (place : ℕ) (vs : List Variable) → length (futures_from w place vs) ≡ length vs
length-futures w place [] = refl
length-futures w place (v ∷ vs) = ap suc (length-futures w (place + one_if_future v.sort) vs)

one-most : (s : Sort) → one_if_number s ≤ 1
one-most Number = omega arith
one-most Future = omega arith

-- there are no more numbers than variables
pub count-most : (vs : List Variable) → number_count vs ≤ length vs
count-most [] = omega arith
count-most (v ∷ vs) = omega (arith, one-most v.sort, count-most vs)

-- a number variable has a place among the numbers
pub count-before : (vs : List Variable) (x : ℕ) → IsSort vs x Number → number_count (take x vs) < number_count vs
count-before [] x e = cc
count-before (v ∷ vs) zero e = let s : v.sort ≡ Number = cc in let o : one_if_number v.sort ≡ 1 = ap one_if_number s in omega arith
count-before (v ∷ vs) (suc x) e = omega (arith, count-before vs x e)

-- a number variable has the number of its word
pub number-reads : (w : ℕ → ℕ) (place : ℕ) (vs : List Variable) (x : ℕ) → IsSort vs x Number
    → slice_index (numbers_from w place vs) x ≡ w (place + number_count (take x vs))
number-reads w place [] x e = cc
number-reads w place (v ∷ vs) zero e = let s : v.sort ≡ Number = cc in ap (λ t. number_if t (w place)) s ∙ ap w (omega arith)
number-reads w place (v ∷ vs) (suc x) e = number-reads w (place + one_if_number v.sort) vs x e ∙ ap w (omega arith)

-- words that agree where numbers stand have the same numbers
pub numbers-same : (w w' : ℕ → ℕ) (place : ℕ) (vs : List Variable) → ((k : ℕ) → place ≤ k → k < place + number_count vs → w' k ≡ w k)
    → numbers_from w' place vs ≡ numbers_from w place vs
numbers-same w w' place [] h = refl
numbers-same w w' place (v ∷ vs) h = both (head v.sort (λ k low high. h k low high)) (numbers-same w w' (place + one_if_number v.sort) vs (λ k low high. h k (omega (arith, low)) (omega (arith, high))))
  where
    both : {n m : ℕ} {ns ms : List ℕ} → n ≡ m → ns ≡ ms → (n ∷ ns) ≡ (m ∷ ms)
    both e g = cc

    head : (s : Sort) → ((k : ℕ) → place ≤ k → k < place + (one_if_number s + number_count vs) → w' k ≡ w k) → number_if s (w' place) ≡ number_if s (w place)
    head Number g = g place (omega arith) (omega arith)
    head Future g = refl

-- words that agree from the first future on name the same units
pub futures-same : (w w' : ℕ → ℕ) (place : ℕ) (vs : List Variable) → ((k : ℕ) → place ≤ k → w' k ≡ w k) → futures_from w' place vs ≡ futures_from w place vs
futures-same w w' place [] h = refl
futures-same w w' place (v ∷ vs) h =
    let e : future_if v.sort (w' place) ≡ future_if v.sort (w place) = ap (future_if v.sort) (h place (omega arith)) in
    let g : futures_from w' (place + one_if_future v.sort) vs ≡ futures_from w (place + one_if_future v.sort) vs
    = futures-same w w' (place + one_if_future v.sort) vs (λ k low. h k (omega (arith, low))) in cc

-- a word that changes at the place of a number variable sets that variable alone
pub number-sets : (w w' : ℕ → ℕ) (place : ℕ) (vs : List Variable) (x n : ℕ) → IsSort vs x Number → w' (place + number_count (take x vs)) ≡ n
    → ((k : ℕ) → k ≢ place + number_count (take x vs) → w' k ≡ w k) → numbers_from w' place vs ≡ slice_set (numbers_from w place vs) x n
number-sets w w' place [] x n s e h = cc
number-sets w w' place (v ∷ vs) zero n s e h =
    let t : v.sort ≡ Number = cc in
    let o : one_if_number v.sort ≡ 1 = ap one_if_number t in
    let a : number_if v.sort (w' place) ≡ n = ap (λ t. number_if t (w' place)) t ∙ (ap w' (omega arith) ∙ e) in
    let b : numbers_from w' (place + one_if_number v.sort) vs ≡ numbers_from w (place + one_if_number v.sort) vs
    = numbers-same w w' (place + one_if_number v.sort) vs (λ k low high. h k (λ same. omega (arith, low, same, o))) in cc
number-sets w w' place (v ∷ vs) (suc x) n s e h =
    let a : number_if v.sort (w' place) ≡ number_if v.sort (w place) = head v.sort refl in
    let b : numbers_from w' (place + one_if_number v.sort) vs ≡ slice_set (numbers_from w (place + one_if_number v.sort) vs) x n
    = number-sets w w' (place + one_if_number v.sort) vs x n s (ap w' (omega arith) ∙ e) (λ k other. h k (λ same. other (omega (arith, same)))) in cc
  where
    head : (t : Sort) → v.sort ≡ t → number_if t (w' place) ≡ number_if t (w place)
    head Number t = let o : one_if_number v.sort ≡ 1 = ap one_if_number t in h place (λ same. omega (arith, same, o))
    head Future t = refl

one-each : (s : Sort) → one_if_number s + one_if_future s ≡ 1
one-each Number = refl
one-each Future = refl

-- each variable is a number or a future
pub both-counts : (vs : List Variable) → number_count vs + future_count vs ≡ length vs
both-counts [] = refl
both-counts (v ∷ vs) = omega (arith, one-each v.sort, both-counts vs)

-- of those before a variable too
pub counts-before : (vs : List Variable) (x : ℕ) → x ≤ length vs → number_count (take x vs) + future_count (take x vs) ≡ x
counts-before vs zero h = refl
counts-before [] (suc x) h = absurd (omega (arith, h))
counts-before (v ∷ vs) (suc x) h = omega (arith, one-each v.sort, counts-before vs x (omega (arith, h)))

pub futures-before : (vs : List Variable) (x : ℕ) → IsSort vs x Future → future_count (take x vs) < future_count vs
futures-before [] x e = cc
futures-before (v ∷ vs) zero e = let s : v.sort ≡ Future = cc in let o : one_if_future v.sort ≡ 1 = ap one_if_future s in omega arith
futures-before (v ∷ vs) (suc x) e = omega (arith, futures-before vs x e)

-- a future variable names what its word does
pub future-reads : (w : ℕ → ℕ) (place : ℕ) (vs : List Variable) (x : ℕ) → IsSort vs x Future
    → future_at (futures_from w place vs) x ≡ unit_named (w (place + future_count (take x vs)))
future-reads w place [] x e = cc
future-reads w place (v ∷ vs) zero e = let s : v.sort ≡ Future = cc in ap (λ t. future_if t (w place)) s ∙ ap (λ (k : ℕ). unit_named (w k)) (omega arith)
future-reads w place (v ∷ vs) (suc x) e = future-reads w (place + one_if_future v.sort) vs x e ∙ ap (λ (k : ℕ). unit_named (w k)) (omega arith)

-- a word that changes at the place of a future variable sets that variable alone
pub future-sets : (w w' : ℕ → ℕ) (place : ℕ) (vs : List Variable) (x word : ℕ) → IsSort vs x Future → w' (place + future_count (take x vs)) ≡ word
    → ((k : ℕ) → k ≢ place + future_count (take x vs) → w' k ≡ w k) → futures_from w' place vs ≡ slice_set (futures_from w place vs) x (unit_named word)
future-sets w w' place [] x word s e h = cc
future-sets w w' place (v ∷ vs) zero word s e h =
    let t : v.sort ≡ Future = cc in
    let o : one_if_future v.sort ≡ 1 = ap one_if_future t in
    let a : future_if v.sort (w' place) ≡ unit_named word = ap (λ t. future_if t (w' place)) t ∙ ap unit_named (ap w' (omega arith) ∙ e) in
    let b : futures_from w' (place + one_if_future v.sort) vs ≡ futures_from w (place + one_if_future v.sort) vs
    = futures-same w w' (place + one_if_future v.sort) vs (λ k low. h k (λ same. omega (arith, low, same, o))) in cc
future-sets w w' place (v ∷ vs) (suc x) word s e h =
    let a : future_if v.sort (w' place) ≡ future_if v.sort (w place) = head v.sort refl in
    let b : futures_from w' (place + one_if_future v.sort) vs ≡ slice_set (futures_from w (place + one_if_future v.sort) vs) x (unit_named word)
    = future-sets w w' (place + one_if_future v.sort) vs x word s (ap w' (omega arith) ∙ e) (λ k other. h k (λ same. other (omega (arith, same)))) in cc
  where
    head : (t : Sort) → v.sort ≡ t → future_if t (w' place) ≡ future_if t (w place)
    head Number t = refl
    head Future t = let o : one_if_future v.sort ≡ 1 = ap one_if_future t in ap unit_named (h place (λ same. omega (arith, same, o)))
