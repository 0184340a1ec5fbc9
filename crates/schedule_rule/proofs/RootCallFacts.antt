-- The tasks of the roots, when one more root has its task.
use Rattle.std.proofs.Common.{◌≡◌, ◌≢◌, ◌∙◌, ℕ, zero, suc, ◌≤◌, Option, Some, None, List, [], ◌∷◌, map, length, refl, sym, ap, subst, arith}
use Rattle.std.specs.Prelude.{IfSome}
use Rattle.record_core.proofs.NumberFacts.{number-old}
use Rattle.task_syntax.specs.Places.{Each as EachArgument}
use Rattle.task_syntax.specs.declared.program.Root.{Root as RootLine}
use Rattle.task_syntax.specs.declared.program.RootArgument.{RootArgument}
use Rattle.task_syntax.specs.declared.program.RootArgument.TheVariants as root_argument
use Rattle.task_meaning.specs.Meant.{future_at}
use Rattle.task_meaning.specs.Roots.{root_call, root_future, root_number}
use Rattle.task_meaning.specs.RootLaws.{HasTask, NamesTasks, root_waits, IsRootTask}
use Rattle.task_meaning.specs.WorthLaws.{NamesUpTo}
use Rattle.task_meaning.specs.Worths.{Accepted, OfCall}
use Rattle.schedule_rule.proofs.StoryFacts.{more}

-- the list with n at position k, and nothing between its end and there
abbrev pub grown : List (Option ℕ) → ℕ → ℕ → List (Option ℕ)
grown [] zero n = Some n ∷ []
grown [] (suc k) n = None ∷ grown [] k n
grown (o ∷ own) zero n = Some n ∷ []
grown (o ∷ own) (suc k) n = o ∷ grown own k n

-- its length
pub length-grown : (own : List (Option ℕ)) (k n : ℕ) → length (grown own k n) ≡ suc k
length-grown [] zero n = refl
length-grown [] (suc k) n = ap suc (length-grown [] k n)
length-grown (o ∷ own) zero n = refl
length-grown (o ∷ own) (suc k) n = ap suc (length-grown own k n)

-- n stands there
pub grown-here : (own : List (Option ℕ)) (k n : ℕ) → future_at (grown own k n) k ≡ Some n
grown-here [] zero n = refl
grown-here [] (suc k) n = grown-here [] k n
grown-here (o ∷ own) zero n = refl
grown-here (o ∷ own) (suc k) n = grown-here own k n

-- and nothing elsewhere, where nothing stood
grown-none : (k n r : ℕ) → r ≢ k → future_at (grown [] k n) r ≡ None
grown-none zero n zero ne = absurd (ne refl)
grown-none zero n (suc r) ne = refl
grown-none (suc k) n zero ne = refl
grown-none (suc k) n (suc r) ne = grown-none k n r (λ e. ne (ap suc e))

-- other positions read as before
pub grown-other : (own : List (Option ℕ)) (k n r : ℕ) → length own ≤ k → r ≢ k → future_at (grown own k n) r ≡ future_at own r
grown-other [] k n r few ne = grown-none k n r ne
grown-other (o ∷ own) zero n r few ne = absurd (omega (arith, few))
grown-other (o ∷ own) (suc k) n zero few ne = refl
grown-other (o ∷ own) (suc k) n (suc r) few ne = grown-other own k n r (omega (arith, few)) (λ e. ne (ap suc e))

-- nothing stands behind the end
pub none-behind : (own : List (Option ℕ)) (r : ℕ) → length own ≤ r → future_at own r ≡ None
none-behind [] r few = refl
none-behind (o ∷ own) zero few = absurd (omega (arith, few))
none-behind (o ∷ own) (suc r) few = none-behind own r (omega (arith, few))

-- two lists that agree where the first has tasks give the roots that name those the same calls
module _ (own own' : List (Option ℕ)) (agree : (r t : ℕ) → future_at own r ≡ Some t → future_at own' r ≡ Some t) where
  future-same : (x : RootArgument) → NamesTasks own x → root_future own' x ≡ root_future own x
  future-same (root_argument.Number n) names = refl
  future-same (root_argument.Root r) names = agree r names.0 names.1 ∙ sym names.1

  futures-same : (xs : List RootArgument) → EachArgument xs (NamesTasks own) → map (root_future own') xs ≡ map (root_future own) xs
  futures-same [] names = refl
  futures-same (x ∷ xs) names =
      ap (λ (o : Option ℕ). o ∷ map (root_future own') xs) (future-same x (names 0 x refl)) ∙ ap (λ (os : List (Option ℕ)). root_future own x ∷ os) (futures-same xs (λ k y at. names (suc k) y at))

  -- the call of such a root
  pub call-agrees : (line : RootLine) → EachArgument line.arguments (NamesTasks own) → root_call own' line ≡ root_call own line
  call-agrees line names = ap (λ (os : List (Option ℕ)). record { kind = line.kind; numbers = map root_number line.arguments; futures = os }) (futures-same line.arguments names)

  -- what it is behind
  pub waits-agree : (o : Option ℕ) → IfSome o (HasTask own) → root_waits own' o ≡ root_waits own o
  waits-agree None has = refl
  waits-agree (Some r) has = agree r has.0 has.1 ∙ sym has.1

  -- the roots that it names have tasks in the second list too
  pub arguments-agree : (x : RootArgument) → NamesTasks own x → NamesTasks own' x
  arguments-agree (root_argument.Number n) names = names
  arguments-agree (root_argument.Root r) names = (names.0, agree r names.0 names.1)

  -- and so has the one that it is behind
  pub behind-agrees : (o : Option ℕ) → IfSome o (HasTask own) → IfSome o (HasTask own')
  behind-agrees None has = has
  behind-agrees (Some r) has = (has.0, agree r has.0 has.1)

  -- a root's task is one of the longer list too
  pub root-kept : (calls : List Accepted) (a : Accepted) (line : RootLine) (t : ℕ) → IsRootTask calls own line t → IsRootTask (more calls a) own' line t
  root-kept calls a line t is = record {
    before = is.before;
    follows = is.follows;
    accepted_as = number-old calls a _ (suc is.before) (is.accepted_as ∙ ap (λ (c : _). Some (OfCall c (root_waits own line.behind))) (sym (call-agrees line is.arguments)) ∙ ap (λ (o : Option ℕ). Some (OfCall (root_call own' line) o)) (sym (waits-agree line.behind is.waits)));
    arguments = λ k x at. arguments-agree x (is.arguments k x at);
    waits = behind-agrees line.behind is.waits;
    earlier = subst (λ (os : List (Option ℕ)). EachArgument os (NamesUpTo is.before)) (sym (futures-same line.arguments is.arguments)) is.earlier;
    earlier_waits = subst (NamesUpTo is.before) (sym (waits-agree line.behind is.waits)) is.earlier_waits;
  }
