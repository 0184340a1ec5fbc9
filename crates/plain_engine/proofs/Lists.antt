-- Lists that a loop goes through.
use Rattle.std.proofs.Common.{◌≡◌, ℕ, zero, suc, ◌+◌, Option, Some, None, List, [], ◌∷◌, ◌++◌, take, drop, slice_get, refl, sym, ◌∙◌, ap, arith}
use Rattle.std.specs.List.{flat_map}
use Rattle.std.specs.Option.{option_or}
use Rattle.std.proofs.lemmas.Option.{none-some, same_Some}
use Rattle.task_syntax.specs.declared.program.RootArgument.{RootArgument}
use Rattle.task_syntax.specs.declared.program.Root.{Root as RootLine}
use Rattle.record_core.specs.RootEnds.{root_passed, root_waited, roots_named}
use Rattle.record_core.specs.declared.rows.CutTag.{CutTag}
use Rattle.plain_state.specs.declared.record.RootState.{RootState}
use Rattle.plain_state.specs.Laws.{first_without_task, taskless}

-- what is left from a place on begins with the item there
pub drop_next : {A : Type 0} (xs : List A) (at : ℕ) (x : A) → slice_get xs at ≡ Some x → drop at xs ≡ x ∷ drop (at + 1) xs
drop_next [] at x there = absurd (none-some x there)
drop_next (y ∷ xs) zero x there = ap (λ z. z ∷ xs) (same_Some y x there)
drop_next (y ∷ xs) (suc at) x there = let e : suc at + 1 ≡ suc (at + 1) = omega arith in rw e (drop_next xs at x there)

-- one more item of those before a place
pub take_next : {A : Type 0} (xs : List A) (at : ℕ) (x : A) → slice_get xs at ≡ Some x → take (at + 1) xs ≡ take at xs ++ x ∷ []
take_next [] at x there = absurd (none-some x there)
take_next (y ∷ xs) zero x there = ap (λ z. z ∷ []) (same_Some y x there)
take_next (y ∷ xs) (suc at) x there = let e : suc at + 1 ≡ suc (at + 1) = omega arith in rw e (ap (λ zs. y ∷ zs) (take_next xs at x there))

either_alone : {A : Type 0} (one two three : Option A) → option_or (option_or one two) three ≡ option_or one (option_or two three)
either_alone None two three = refl
either_alone (Some x) two three = refl

-- the first root without a task, among the first ones or else among the others
pub first_append : (states : List RootState) (xs ys : List ℕ) → first_without_task states (xs ++ ys) ≡ option_or (first_without_task states xs) (first_without_task states ys)
first_append states [] ys = refl
first_append states (x ∷ xs) ys = ap (option_or (taskless states x)) (first_append states xs ys) ∙ sym (either_alone (taskless states x) (first_without_task states xs) (first_without_task states ys))

-- one more argument is looked at
pub first_next : (states : List RootState) (arguments : List RootArgument) (at : ℕ) (argument : RootArgument) → slice_get arguments at ≡ Some argument
    → first_without_task states (flat_map root_passed (drop at arguments))
    ≡ option_or (first_without_task states (root_passed argument)) (first_without_task states (flat_map root_passed (drop (at + 1) arguments)))
first_next states arguments at argument there =
    ap (λ left. first_without_task states (flat_map root_passed left)) (drop_next arguments at argument there)
    ∙ first_append states (root_passed argument) (flat_map root_passed (drop (at + 1) arguments))

-- the first root that is passed and has no task is the first one that is named and has none
pub first_of : (states : List RootState) (line : RootLine) (found : ℕ × CutTag) → first_without_task states (flat_map root_passed line.arguments) ≡ Some found
    → Some found ≡ first_without_task states (roots_named line)
first_of states line found is =
    sym (first_append states (flat_map root_passed line.arguments) (root_waited line.behind) ∙ ap (λ first. option_or first (first_without_task states (root_waited line.behind))) is)

or_none : {A : Type 0} (one : Option A) → option_or one None ≡ one
or_none None = refl
or_none (Some x) = refl

-- where there is none, it is the one that the root is behind
pub first_behind : (states : List RootState) (line : RootLine) (at : ℕ) → first_without_task states (flat_map root_passed line.arguments) ≡ None → line.behind ≡ Some at
    → taskless states at ≡ first_without_task states (roots_named line)
first_behind states line at none behind =
    sym (first_append states (flat_map root_passed line.arguments) (root_waited line.behind)
    ∙ (ap (λ first. option_or first (first_without_task states (root_waited line.behind))) none
    ∙ (ap (λ b. first_without_task states (root_waited b)) behind ∙ or_none (taskless states at))))
