-- What stands in a list that is parted.
use Rattle.task_writer.proofs.Vocabulary.{◌≡◌, ℕ, suc, ◌+◌, ◌<◌, Some, List, [], ◌∷◌, ◌++◌, length, slice_get, refl, ◌∙◌, ap, arith, AllDiffer, differ-tail, differ-head, IsNew}

pub get-behind : {A : Type 0} (front back : List A) (i : ℕ) → slice_get (front ++ back) (length front + i) ≡ slice_get back i
get-behind [] back i = let e : 0 + i ≡ i = omega arith in ap (slice_get back) e
get-behind (x ∷ front) back i = let e : suc (length front) + i ≡ suc (length front + i) = omega arith in ap (slice_get (x ∷ (front ++ back))) e ∙ get-behind front back i

pub get-next : {A : Type 0} (front : List A) (x y : A) (back : List A) → slice_get (front ++ x ∷ y ∷ back) (length front + 1) ≡ Some y
get-next front x y back = get-behind front (x ∷ y ∷ back) 1

-- what stands in the back of a list whose members differ stands nowhere in the front
pub new-before : (front back : List (List ℕ)) (j : ℕ) (name : List ℕ) → AllDiffer (front ++ back) → slice_get back j ≡ Some name → IsNew name front
new-before [] back j name d e = tt
new-before (x ∷ front) back j name d e =
    let at : slice_get (front ++ back) (length front + j) ≡ Some name = get-behind front back j ∙ e in (
      λ s. differ-head x (front ++ back) d (length front + j) (at ∙ ap (λ (z : List ℕ). Some z) s),
      new-before front back j name (differ-tail x (front ++ back) d) e,
    )

pub length-front : {A : Type 0} (front : List A) (x : A) (back all : List A) → all ≡ front ++ x ∷ back → length front < length all
length-front [] x back all e = let l : length all ≡ suc (length back) = ap (λ (z : List _). length z) e in omega (arith, l)
length-front (y ∷ front) x back all e =
    let l : length all ≡ suc (length (front ++ x ∷ back)) = ap (λ (z : List _). length z) e in
    let r = length-front front x back (front ++ x ∷ back) refl in omega (arith, l, r)
