-- Members of a list that are looked at one after the other.
use Rattle.std.proofs.Common.{◌≡◌, ℕ, ◌+◌, ◌≤◌, Bool, true, false, ◌||◌, List, length, drop, Some, slice_get, refl, sym, ◌∙◌, ap, add-one}
use Rattle.std.specs.List.{list_any}
use Rattle.std.proofs.lemmas.List.{drop_all}
use Rattle.task_meaning.proofs.Lists.{drop-at}

or_assoc : (a b c : Bool) → ((a || b) || c) ≡ (a || (b || c))
or_assoc true b c = refl
or_assoc false b c = refl

or_none : (a : Bool) → (a || false) ≡ a
or_none true = refl
or_none false = refl

-- what was seen up to a position, and what is seen from there on
abbrev pub IsSeenUpTo : {X : Type 0} → (X → Bool) → List X → ℕ → Bool → Type 0
IsSeenUpTo p xs at seen = (seen || list_any p (drop at xs)) ≡ list_any p xs

-- one more member is looked at
pub seen_further : {X : Type 0} (p : X → Bool) (xs : List X) (at : ℕ) (x : X) (seen : Bool) → slice_get xs at ≡ Some x → IsSeenUpTo p xs at seen
    → IsSeenUpTo p xs (at + 1) (seen || p x)
seen_further p xs at x seen is so_far =
    or_assoc seen (p x) (list_any p (drop (at + 1) xs))
    ∙ (ap (λ n. seen || (p x || list_any p (drop n xs))) (add-one at) ∙ (sym (ap (λ ys. seen || list_any p ys) (drop-at xs at x is).0) ∙ so_far))

-- all were looked at
pub seen_all : {X : Type 0} (p : X → Bool) (xs : List X) (at : ℕ) (seen : Bool) → length xs ≤ at → IsSeenUpTo p xs at seen → seen ≡ list_any p xs
seen_all p xs at seen past so_far = sym (or_none seen) ∙ (sym (ap (λ ys. seen || list_any p ys) (drop_all at xs past)) ∙ so_far)
