-- The first of several roots without a record, found part by part.
use Rattle.std.proofs.Common.{◌≡◌, ◌∙◌, ℕ, zero, suc, ◌+◌, ◌<◌, ◌≤◌, Option, Some, None, List, [], ◌∷◌, ◌++◌, drop, length, refl, sym, ap, subst, arith}
use Rattle.std.specs.List.{flat_map}
use Rattle.std.specs.Prelude.{slice_index_or}
use Rattle.record_core.specs.Counting.{At}
use Rattle.record_core.specs.RootEnds.{root_passed}
use Rattle.record_core.proofs.TotalFacts.{none_there}
use Rattle.task_syntax.specs.declared.program.RootArgument.{RootArgument}
use Rattle.task_syntax.specs.declared.program.RootArgument.TheVariants as root_argument
use Rattle.table_core.specs.Holdings.{RootSays}
use Rattle.table_core.specs.Lists.{Each}
use Rattle.table_core.specs.Roots.{HasRecord}
use Rattle.table_core.specs.declared.view.View.{View}
use Rattle.table_core.proofs.ListFacts.{each-append, each-none, each-tail, same_some}
use Rattle.schedule_core.specs.NamedRoots.{FirstWithout, TellsMissing}
use Rattle.schedule_core.proofs.EachFacts.{front-has, part-has}

-- a member of a list stands in a longer one that begins so
pub at-front : {A : Type 0} (xs ys : List A) (k : ℕ) (x : A) → At xs k x → At (xs ++ ys) k x
at-front [] ys k x at = absurd (none_there x at)
at-front (z ∷ xs) ys zero x at = at
at-front (z ∷ xs) ys (suc k) x at = at-front xs ys k x at

-- and what stands before it there stands in the list
before-front : (xs ys : List ℕ) (k i j r : ℕ) → At xs k j → i < k → At (xs ++ ys) i r → At xs i r
before-front [] ys k i j r at low there = absurd (none_there j at)
before-front (x ∷ xs) ys k zero j r at low there = there
before-front (x ∷ xs) ys zero (suc i) j r at low there = absurd (omega (arith, low))
before-front (x ∷ xs) ys (suc k) (suc i) j r at low there = before-front xs ys k i j r at (omega (arith, low)) there

module _ (asked : List RootSays) where
  -- a root without a record that is the first of some is the first of more
  pub without-front : (xs ys : List ℕ) (j : ℕ) → FirstWithout asked xs (Some j) → FirstWithout asked (xs ++ ys) (Some j)
  without-front xs ys j first =
      (first.0, at-front xs ys first.0 j first.1, first.2, λ i r low at. first.3 i r low (before-front xs ys first.0 i j r first.1 low at))

  -- where each of some has a record, it is the first of the others
  pub without-later : (xs ys : List ℕ) (o : Option ℕ) → Each (HasRecord asked) xs → FirstWithout asked ys o → FirstWithout asked (xs ++ ys) o
  without-later xs ys None all first = each-append (HasRecord asked) xs ys all first
  without-later [] ys (Some j) all first = first
  without-later (x ∷ xs) ys (Some j) all first =
      let rest = without-later xs ys (Some j) (each-tail (HasRecord asked) x xs all) first in
      (suc rest.0, rest.1, rest.2, λ i r low at. by i r low at rest.3)
    where
      by : {k : ℕ} (i r : ℕ) → i < suc k → At (x ∷ (xs ++ ys)) i r → ((i r : ℕ) → i < k → At (xs ++ ys) i r → HasRecord asked r) → HasRecord asked r
      by zero r low at deeper = subst (HasRecord asked) (same_some x r at) (all 0 x refl)
      by (suc i) r low at deeper = deeper i r (omega (arith, low)) at

-- a list has its member at each place within it
pub at-there : {A : Type 0} (xs : List A) (k : ℕ) (d : A) → k < length xs → At xs k (slice_index_or xs k d)
at-there [] k d low = absurd (omega (arith, low))
at-there (x ∷ xs) zero d low = refl
at-there (x ∷ xs) (suc k) d low = at-there xs k d (omega (arith, low))

-- the roots that arguments name, one argument more
pub roots-first : (arguments : List RootArgument) (n : ℕ) (one : RootArgument) → n < length arguments → one ≡ slice_index_or arguments n (root_argument.Number 0)
    → flat_map root_passed (drop n arguments) ≡ root_passed one ++ flat_map root_passed (drop (n + 1) arguments)
roots-first [] n one low is = absurd (omega (arith, low))
roots-first (x ∷ arguments) zero one low is = ap (λ (y : RootArgument). root_passed y ++ flat_map root_passed arguments) (sym is)
roots-first (x ∷ arguments) (suc n) one low is =
    let on : suc (n + 1) ≡ suc n + 1 = omega arith in
    roots-first arguments n one (omega (arith, low)) is ∙ ap (λ (m : ℕ). root_passed one ++ flat_map root_passed (drop m (x ∷ arguments))) on

-- behind the last one there are none
none-left : {A : Type 0} (l : List A) (n : ℕ) → length l ≤ n → drop n l ≡ []
none-left [] zero all = refl
none-left [] (suc n) all = refl
none-left (x ∷ l) zero all = absurd (omega (arith, all))
none-left (x ∷ l) (suc n) all = none-left l n (omega (arith, all))

-- what holds of each root that arguments name holds of those that one of them names
pub each-passed : (P : ℕ → Type 0) (arguments : List RootArgument) (k : ℕ) (a : RootArgument) → At arguments k a → Each P (flat_map root_passed arguments) → Each P (root_passed a)
each-passed P [] k a at all = absurd (none_there a at)
each-passed P (x ∷ arguments) zero a at all = subst (λ (y : RootArgument). Each P (root_passed y)) (same_some x a at) (front-has P (root_passed x) (flat_map root_passed arguments) all)
each-passed P (x ∷ arguments) (suc k) a at all = each-passed P arguments k a at (part-has P (root_passed x) (flat_map root_passed arguments) all)

module _ (v : View) where
  -- what the loop over the arguments keeps: what is the first of those that are left is the first of all
  abbrev pub IsLookingOn : List ℕ → List ℕ → Type 0
  IsLookingOn all rest = (told : Option ℕ) → TellsMissing v rest told → TellsMissing v all told

  pub looks-on : (all more rest : List ℕ) → IsLookingOn all (more ++ rest) → TellsMissing v more None → IsLookingOn all rest
  looks-on all more rest so none told tells = so told (λ asked turn. without-later asked more rest told (none asked turn) (tells asked turn))

  pub looks-found : (all more rest : List ℕ) (j : ℕ) → IsLookingOn all (more ++ rest) → TellsMissing v more (Some j) → TellsMissing v all (Some j)
  looks-found all more rest j so some = so (Some j) (λ asked turn. without-front asked more rest j (some asked turn))

  -- where none is left, each has a record
  pub looks-end : (all : List ℕ) (arguments : List RootArgument) (n : ℕ) → length arguments ≤ n → IsLookingOn all (flat_map root_passed (drop n arguments)) → TellsMissing v all None
  looks-end all arguments n end so = so None (λ asked turn. subst (λ (l : List RootArgument). Each (HasRecord asked) (flat_map root_passed l)) (sym (none-left arguments n end)) (each-none (HasRecord asked)))

  -- two parts one after the other
  pub tells-later : (xs ys : List ℕ) (o : Option ℕ) → TellsMissing v xs None → TellsMissing v ys o → TellsMissing v (xs ++ ys) o
  tells-later xs ys o none tells asked turn = without-later asked xs ys o (none asked turn) (tells asked turn)

  pub tells-front : (xs ys : List ℕ) (j : ℕ) → TellsMissing v xs (Some j) → TellsMissing v (xs ++ ys) (Some j)
  tells-front xs ys j tells asked turn = without-front asked xs ys j (tells asked turn)
