-- Members of a list that are checked one after the other.
use Rattle.std.proofs.Common.{◌≡◌, ℕ, ◌+◌, ◌<◌, ◌≤◌, ◌⊎◌, inl, inr, arith, List, length, Some, slice_get, sym, ◌∙◌, ap, subst}
use Rattle.std.proofs.lemmas.Option.{slice_get_within}
use Rattle.task_syntax.specs.Places.{Each}

-- P holds of the members before a place
abbrev pub EachBelow : {X : Type 0} → ℕ → List X → (X → Type 0) → Type 0
EachBelow {X} n xs P = (at : ℕ) (x : X) → at < n → slice_get xs at ≡ Some x → P x

pub below_none : {X : Type 0} (xs : List X) (P : X → Type 0) → EachBelow 0 xs P
below_none xs P at x within is = absurd (omega (arith, within))

below_or_here : (at n : ℕ) → at < n + 1 → (at < n) ⊎ (at ≡ n)
below_or_here at n within = grind arith

-- one member more
pub below_more : {X : Type 0} (n : ℕ) (xs : List X) (P : X → Type 0) (x : X) → EachBelow n xs P → slice_get xs n ≡ Some x → P x → EachBelow (n + 1) xs P
below_more {X} n xs P x before here p at y within is = by (below_or_here at n within) where
  by : (at < n) ⊎ (at ≡ n) → P y
  by (inl under) = before at y under is
  by (inr same) = let both : Some x ≡ Some y = sym here ∙ (ap (slice_get xs) (sym same) ∙ is) in let e : x ≡ y = cc in subst P e p

-- all members
pub below_all : {X : Type 0} (n : ℕ) (xs : List X) (P : X → Type 0) → length xs ≤ n → EachBelow n xs P → Each xs P
below_all n xs P all before at x is = let within = slice_get_within xs at x is in before at x (omega (arith, all, within)) is
