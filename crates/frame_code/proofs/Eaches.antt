-- What holds of each member of a list.
use Rattle.std.proofs.Common.{◌≡◌, zero, suc, Option, Some, None, List, [], ◌∷◌, ◌++◌, IfSome, subst}
use Rattle.std.specs.Option.{option_to_list}
use Rattle.task_syntax.specs.Places.{Each}

pub each-nil : {A : Type 0} (P : A → Type 0) → Each [] P
each-nil P at x e = cc

pub each-cons : {A : Type 0} (P : A → Type 0) (x : A) (xs : List A) → P x → Each xs P → Each (x ∷ xs) P
each-cons P x xs h hs zero y e = let s : x ≡ y = cc in subst P s h
each-cons P x xs h hs (suc at) y e = hs at y e

pub each-tail : {A : Type 0} (P : A → Type 0) (x : A) (xs : List A) → Each (x ∷ xs) P → Each xs P
each-tail P x xs h at y e = h (suc at) y e

pub each-append : {A : Type 0} (P : A → Type 0) (xs ys : List A) → Each xs P → Each ys P → Each (xs ++ ys) P
each-append P [] ys h g = g
each-append P (x ∷ xs) ys h g = each-cons P x (xs ++ ys) (h 0 x (cc)) (each-append P xs ys (each-tail P x xs h) g)

pub each-option : {A : Type 0} (P : A → Type 0) (o : Option A) → IfSome o P → Each (option_to_list o) P
each-option P None h = each-nil P
each-option P (Some x) h = each-cons P x [] h (each-nil P)
