-- Lists by place: what stands where, and lists whose members differ.
use Rattle.std.proofs.Common.{◌≡◌, ℕ, zero, suc, Some, List, [], ◌∷◌, ◌++◌, map, slice_get, refl, sym, ◌∙◌, ap, ◌⊎◌, inl, inr, subst, arith}
use Rattle.task_syntax.specs.Places.{Each, AllDiffer}

pub differ-nil : {X : Type 0} → AllDiffer {X = X} []
differ-nil i j x e f = cc

pub differ-tail : {X : Type 0} (y : X) (ys : List X) → AllDiffer (y ∷ ys) → AllDiffer ys
differ-tail y ys d i j x e f = omega (arith, d (suc i) (suc j) x e f)

pub differ-head : {X : Type 0} (y : X) (ys : List X) → AllDiffer (y ∷ ys) → (j : ℕ) → slice_get ys j ≡ Some y → ⊥
differ-head y ys d j e = omega (arith, d zero (suc j) y refl e)

pub differ-cons : {X : Type 0} (y : X) (ys : List X) → ((j : ℕ) → slice_get ys j ≡ Some y → ⊥) → AllDiffer ys → AllDiffer (y ∷ ys)
differ-cons y ys n d zero zero x e f = refl
differ-cons y ys n d zero (suc j) x e f = absurd (n j (f ∙ sym e))
differ-cons y ys n d (suc i) zero x e f = absurd (n i (e ∙ sym f))
differ-cons y ys n d (suc i) (suc j) x e f = ap suc (d i j x e f)

get-snoc : {X : Type 0} (xs : List X) (y z : X) (j : ℕ) → slice_get (xs ++ y ∷ []) j ≡ Some z → (slice_get xs j ≡ Some z) ⊎ (y ≡ z)
get-snoc [] y z zero e = inr cc
get-snoc [] y z (suc j) e = cc
get-snoc (x ∷ xs) y z zero e = inl e
get-snoc (x ∷ xs) y z (suc j) e = get-snoc xs y z j e

-- one more member that stood nowhere
pub differ-snoc : {X : Type 0} (xs : List X) (y : X) → AllDiffer xs → ((j : ℕ) → slice_get xs j ≡ Some y → ⊥) → AllDiffer (xs ++ y ∷ [])
differ-snoc [] y d n = differ-cons y [] (λ j e. cc) differ-nil
differ-snoc (x ∷ xs) y d n = differ-cons x (xs ++ y ∷ [])
    (λ j e. elim (get-snoc xs y x j e) [ inl h ↦ differ-head x xs d j h | inr h ↦ n zero (ap Some (sym h)) ])
    (differ-snoc xs y (differ-tail x xs d) (λ j. n (suc j)))

pub get-front : {X : Type 0} (xs ys : List X) (i : ℕ) (x : X) → slice_get xs i ≡ Some x → slice_get (xs ++ ys) i ≡ Some x
get-front [] ys i x e = cc
get-front (y ∷ xs) ys zero x e = e
get-front (y ∷ xs) ys (suc i) x e = get-front xs ys i x e

pub differ-front : {X : Type 0} (xs ys : List X) → AllDiffer (xs ++ ys) → AllDiffer xs
differ-front xs ys d i j x e f = d i j x (get-front xs ys i x e) (get-front xs ys j x f)

-- what stands in a mapped list comes from what stands there
pub get-map : {X Y : Type 0} (f : X → Y) (xs : List X) (i : ℕ) (y : Y) → slice_get (map f xs) i ≡ Some y → (x : X) × (slice_get xs i ≡ Some x) × (f x ≡ y)
get-map f [] i y e = cc
get-map f (x ∷ xs) zero y e = (x, refl, cc)
get-map f (x ∷ xs) (suc i) y e = get-map f xs i y e

pub differ-map : {X Y : Type 0} (f : X → Y) (xs : List X)
    → ((i j : ℕ) (x y : X) → slice_get xs i ≡ Some x → slice_get xs j ≡ Some y → f x ≡ f y → x ≡ y) → AllDiffer xs → AllDiffer (map f xs)
differ-map f xs apart d i j y e g = let a = get-map f xs i y e in
    let b = get-map f xs j y g in
    let s : a.0 ≡ b.0 = apart i j a.0 b.0 a.1 b.1 (a.2 ∙ sym b.2) in
    d i j b.0 (a.1 ∙ ap Some s) b.1

pub each-map : {X Y : Type 0} (f : X → Y) (P : Y → Type 0) (xs : List X) → Each xs (λ x. P (f x)) → Each (map f xs) P
each-map f P xs h i y e = let a = get-map f xs i y e in subst P a.2 (h i a.0 a.1)

pub each-nil : {X : Type 0} (P : X → Type 0) → Each [] P
each-nil P i x e = cc

pub each-cons : {X : Type 0} (P : X → Type 0) (y : X) (ys : List X) → P y → Each ys P → Each (y ∷ ys) P
each-cons P y ys p h zero x e = subst P (some-same e) p where
  some-same : {Y : Type 0} {a b : Y} → Some a ≡ Some b → a ≡ b
  some-same e = cc
each-cons P y ys p h (suc i) x e = h i x e

pub each-append : {X : Type 0} (P : X → Type 0) (xs ys : List X) → Each xs P → Each ys P → Each (xs ++ ys) P
each-append P [] ys g h = h
each-append P (x ∷ xs) ys g h = each-cons P x (xs ++ ys) (g zero x refl) (each-append P xs ys (λ i. g (suc i)) h)
