-- What is passed to a root whose earlier roots have tasks.
use Rattle.std.proofs.Common.{◌≡◌, ℕ, zero, suc, ◌<◌, ◌≤◌, Option, Some, None, List, [], ◌∷◌, length, slice_get, refl, sym, ◌∙◌, ap, subst, arith}
use Rattle.std.specs.List.{flat_map}
use Rattle.std.specs.Option.{option_or}
use Rattle.std.proofs.lemmas.Option.{none-some, same_Some}
use Rattle.task_syntax.specs.Form.{IsFormedRootArgument}
use Rattle.task_syntax.specs.declared.program.Program.{Program}
use Rattle.task_syntax.specs.declared.program.Root.{Root as RootLine}
use Rattle.task_syntax.specs.declared.program.RootArgument.{RootArgument}
use Rattle.task_syntax.specs.declared.program.RootArgument.TheVariants as root_argument
use Rattle.task_meaning.specs.Meant.{future_at}
use Rattle.record_core.specs.RootEnds.{root_passed, root_waited}
use Rattle.plain_state.specs.declared.record.RootState.{RootState}
use Rattle.plain_state.specs.declared.record.RootState.TheVariants as root
use Rattle.plain_state.specs.Engine.{EngineState}
use Rattle.plain_state.specs.Laws.{first_without_task, root_after, root_units, taskless}
use Rattle.plain_engine.specs.Asking.{IsKnown}
use Rattle.plain_engine.specs.Roots.{ArgumentHasTask, ArgumentsHaveTasks, MayAskRoot, NamesTasks}
use Rattle.plain_engine.proofs.StepLaws.{roots_are_known}
use Rattle.plain_engine.proofs.Lists.{first_append}

-- neither of two has any where the first of both has none
or_left : {A : Type 0} (one two : Option A) → option_or one two ≡ None → one ≡ None
or_left None two none = refl
or_left (Some x) two none = none

or_right : {A : Type 0} (one two : Option A) → option_or one two ≡ None → two ≡ None
or_right None two none = none
or_right (Some x) two none = absurd (none-some x (sym none))

-- a root that has a task has a unit
unit_there : (states : List RootState) (at : ℕ) → at < length states → taskless states at ≡ None → (unit : ℕ) × (future_at (root_units states) at ≡ Some unit)
unit_there [] at lt none = absurd (omega (arith, lt))
unit_there (root.Named unit ∷ states) zero lt none = (unit, refl)
unit_there (root.Refused tag ∷ states) zero lt none = absurd (none-some _ (sym none))
unit_there (root.Skipped earlier tag ∷ states) zero lt none = absurd (none-some _ (sym none))
unit_there (state ∷ states) (suc at) lt none = unit_there states at (omega (arith, lt)) (later states at none) where
  some_later : (n m : ℕ) (o : Option RootState) → Rattle.plain_state.specs.Laws.taskless_in n o ≡ None → Rattle.plain_state.specs.Laws.taskless_in m o ≡ None
  some_later n m None is = refl
  some_later n m (Some (root.Named unit)) is = refl
  some_later n m (Some (root.Refused tag)) is = absurd (none-some _ (sym is))
  some_later n m (Some (root.Skipped earlier tag)) is = absurd (none-some _ (sym is))

  later : (xs : List RootState) (at : ℕ) → Rattle.plain_state.specs.Laws.taskless_in (suc at) (slice_get xs at) ≡ None → taskless xs at ≡ None
  later xs at is = some_later (suc at) at (slice_get xs at) is

-- and the unit is that of its task
named_there : (states : List RootState) (at unit : ℕ) → future_at (root_units states) at ≡ Some unit → slice_get states at ≡ Some (root.Named unit)
named_there [] at unit is = absurd (none-some unit is)
named_there (root.Named u ∷ states) zero unit is = ap (λ n. Some (root.Named n)) (same_Some u unit is)
named_there (root.Refused tag ∷ states) zero unit is = absurd (none-some unit is)
named_there (root.Skipped earlier tag ∷ states) zero unit is = absurd (none-some unit is)
named_there (state ∷ states) (suc at) unit is = named_there states at unit is

-- each root that the arguments name has a task
have_tasks : (states : List RootState) (arguments : List RootArgument) → first_without_task states (flat_map root_passed arguments) ≡ None
    → (at : ℕ) (argument : RootArgument) → slice_get arguments at ≡ Some argument → first_without_task states (root_passed argument) ≡ None
have_tasks states [] none at argument there = absurd (none-some argument there)
have_tasks states (a ∷ more) none zero argument there =
    subst (λ x. first_without_task states (root_passed x) ≡ None) (same_Some a argument there)
    (or_left (first_without_task states (root_passed a)) _ (sym (first_append states (root_passed a) (flat_map root_passed more)) ∙ none))
have_tasks states (a ∷ more) none (suc at) argument there =
    have_tasks states more (or_right (first_without_task states (root_passed a)) _ (sym (first_append states (root_passed a) (flat_map root_passed more)) ∙ none)) at argument there

argument_has : (states : List RootState) (argument : RootArgument) → IsFormedRootArgument (length states) argument → first_without_task states (root_passed argument) ≡ None → ArgumentHasTask states argument
argument_has states (root_argument.Number n) formed none = tt
argument_has states (root_argument.Root r) formed none = unit_there states r formed (or_left (taskless states r) None none)

module _ (p : Program) (e : EngineState) (line : RootLine) (may : MayAskRoot p e line) where
  formed : Rattle.task_syntax.specs.Form.IsFormedRoot p (length e.roots) line
  formed = may.may.formed.roots (length e.roots) line may.there

  -- its kind is one of the program's, and it has few arguments
  pub kind_fits : line.kind < length p.kinds
  kind_fits = formed.kind

  pub few_arguments : length line.arguments ≤ 16
  few_arguments = formed.arguments_fit

  pub unit_known : (at unit : ℕ) → future_at (root_units e.roots) at ≡ Some unit → IsKnown e (Some unit)
  unit_known at unit is = roots_are_known p may.plan e (length e.roots) at unit may.may may.asked (named_there e.roots at unit is)

  known_or : (at : ℕ) (found : Option ℕ) → future_at (root_units e.roots) at ≡ found → IsKnown e found
  known_or at None is = tt
  known_or at (Some unit) is = unit_known at unit is

  after_known : (behind : Option ℕ) → IsKnown e (Rattle.task_meaning.specs.RootLaws.root_waits (root_units e.roots) behind)
  after_known None = tt
  after_known (Some at) = known_or at (future_at (root_units e.roots) at) refl

  -- what it is behind is known
  pub behind_known : IsKnown e (root_after e.roots line)
  behind_known = after_known line.behind

  -- each root that it passes has a task
  pub arguments_have : NamesTasks e line → ArgumentsHaveTasks e.roots line
  arguments_have none at argument there =
      argument_has e.roots argument (formed.arguments at argument there)
      (have_tasks e.roots line.arguments
      (or_left (first_without_task e.roots (flat_map root_passed line.arguments)) _
      (sym (first_append e.roots (flat_map root_passed line.arguments) (root_waited line.behind)) ∙ none)) at argument there)
