-- What is passed to a root fits its kind.
use Rattle.std.proofs.Common.{◌≡◌, ℕ, zero, suc, ◌+◌, ◌<◌, ◌≤◌, ◌^◌, Option, Some, None, List, [], ◌∷◌, length, map, drop, slice_get, IfSome, refl, sym, ◌∙◌, ap, arith}
use Rattle.std.proofs.lemmas.Option.{slice_get_within, none-some, same_Some}
use Rattle.task_syntax.specs.Valid.{sort_of_root}
use Rattle.task_syntax.specs.declared.program.Kind.{Kind}
use Rattle.task_syntax.specs.declared.program.Variable.{Variable}
use Rattle.task_syntax.specs.declared.program.Program.{Program}
use Rattle.task_syntax.specs.declared.program.Root.{Root as RootLine}
use Rattle.task_syntax.specs.declared.program.RootArgument.{RootArgument}
use Rattle.task_syntax.specs.declared.program.RootArgument.TheVariants as root_argument
use Rattle.task_meaning.specs.Frame.{CallOf}
use Rattle.task_meaning.specs.Roots.{root_future}
use Rattle.frame_code.specs.Words.{variable_list, variables_at}
use Rattle.frame_code.specs.Entries.{MayEnterWith, future_of, sort_of_passed}
use Rattle.frame_code.specs.declared.entries.Passed.{Passed}
use Rattle.frame_code.specs.declared.entries.Passed.TheVariants as passed
use Rattle.plain_state.specs.Engine.{EngineState}
use Rattle.plain_state.specs.Laws.{root_units}
use Rattle.plain_engine.specs.Roots.{ArgumentHasTask, IsPassedTo, MayAskRoot, NamesTasks}
use Rattle.plain_engine.proofs.RootArguments.{arguments_have, kind_fits, unit_known}

pub there_at : {A : Type 0} (xs : List A) (at : ℕ) → at < length xs → (x : A) × (slice_get xs at ≡ Some x)
there_at [] at lt = absurd (omega (arith, lt))
there_at (x ∷ xs) zero lt = (x, refl)
there_at (x ∷ xs) (suc at) lt = there_at xs at (omega (arith, lt))

pub map_length : {A B : Type 0} (f : A → B) (xs : List A) → length (map f xs) ≡ length xs
map_length f [] = refl
map_length f (x ∷ xs) = ap suc (map_length f xs)

-- lists whose images are the same have members with the same image
pub same_at : {A B C : Type 0} (f : A → C) (g : B → C) (xs : List A) (ys : List B) (at : ℕ) (a : A) → map f xs ≡ map g ys → slice_get xs at ≡ Some a → (b : B) × (slice_get ys at ≡ Some b) × (f a ≡ g b)
same_at f g [] ys at a same there = absurd (none-some a there)
same_at f g (x ∷ xs) [] at a same there = absurd (none-some (f x) (sym (ap (λ l. slice_get l 0) same)))
same_at f g (x ∷ xs) (y ∷ ys) zero a same there = (y, refl, ap f (sym (same_Some x a there)) ∙ same_Some (f x) (g y) (ap (λ l. slice_get l 0) same))
same_at f g (x ∷ xs) (y ∷ ys) (suc at) a same there = same_at f g xs ys at a (ap (λ l. drop 1 l) same) there

module _ (p : Program) (e : EngineState) (line : RootLine) (may : MayAskRoot p e line) (none : NamesTasks e line)
    (passed_on : List Passed) (passes : IsPassedTo e.roots line passed_on) (few_units : length e.store.records ≤ 524288) where
  kind : (k : Kind) × (slice_get p.kinds line.kind ≡ Some k)
  kind = there_at p.kinds line.kind (kind_fits p e line may)

  variables_are : variables_at p line.kind ≡ kind.0.variables
  variables_are = ap variable_list kind.1

  agrees : Rattle.task_syntax.specs.Valid.Agrees sort_of_root kind.0 line.arguments
  agrees = (may.may.valid.roots (length e.roots) line may.there).agrees kind.0 kind.1

  futures_same : map future_of passed_on ≡ map (root_future (root_units e.roots)) line.arguments
  futures_same = ap (λ (call : CallOf ℕ). call.futures) passes

  as_many : length passed_on ≡ length line.arguments
  as_many = sym (map_length future_of passed_on) ∙ (ap length futures_same ∙ map_length (root_future (root_units e.roots)) line.arguments)

  sort_same : (a : Passed) (argument : RootArgument) → future_of a ≡ root_future (root_units e.roots) argument → ArgumentHasTask e.roots argument → sort_of_root argument ≡ sort_of_passed a
  sort_same (passed.Number n) (root_argument.Number m) same has = refl
  sort_same (passed.Number n) (root_argument.Root r) same has = absurd (none-some has.0 (same ∙ has.1))
  sort_same (passed.Future unit) (root_argument.Number m) same has = absurd (none-some unit (sym same))
  sort_same (passed.Future unit) (root_argument.Root r) same has = refl

  unit_small : (found : Option ℕ) (argument : RootArgument) → found ≡ root_future (root_units e.roots) argument → IfSome found (λ unit. unit + 1 < 2 ^ 64)
  unit_small None argument same = tt
  unit_small (Some unit) (root_argument.Number m) same = absurd (none-some unit (sym same))
  unit_small (Some unit) (root_argument.Root r) same =
      let (known, there, task) = unit_known p e line may r unit (sym same) in
      omega (arith, slice_get_within e.store.records unit known there, few_units)

  -- it agrees with the variables of the kind
  pub may_enter : MayEnterWith p line.kind passed_on
  may_enter = record {
    few = omega (arith, as_many, agrees.0, (may.may.formed.kinds line.kind kind.0 kind.1).arguments_are_variables, ap length variables_are);
    sorts = λ at a v there there_v.
        let (argument, argument_there, same) = same_at future_of (root_future (root_units e.roots)) passed_on line.arguments at a futures_same there in
        agrees.1 at argument v argument_there (ap (λ (vs : List Variable). slice_get vs at) (sym variables_are) ∙ there_v)
        ∙ sort_same a argument same (arguments_have p e line may none at argument argument_there);
    units = λ at a there.
        let (argument, argument_there, same) = same_at future_of (root_future (root_units e.roots)) passed_on line.arguments at a futures_same there in
        unit_small (future_of a) argument same;
  }
