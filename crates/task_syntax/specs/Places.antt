-- Lists by position, and what stands at the positions that a program names.
use Rattle.std.specs.Prelude.{◌≡◌, ℕ, Option, Some, List, slice_get}
use Rattle.std.specs.Option.{option_map}
use Rattle.task_syntax.specs.declared.program.Sort.{Sort}
use Rattle.task_syntax.specs.declared.program.Sort.TheVariants.{Number, Future}
use Rattle.task_syntax.specs.declared.program.Variable.{Variable}
use Rattle.task_syntax.specs.declared.program.State.{State}
use Rattle.task_syntax.specs.declared.program.Kind.{Kind}
use Rattle.task_syntax.specs.declared.instr.Line.{Line}
use Rattle.task_syntax.specs.declared.instr.Instr.{Instr}

-- P holds of each place of a list and the member there
abbrev pub EachAt : {X : Type 0} → List X → (ℕ → X → Type 0) → Type 0
EachAt {X} xs P = (at : ℕ) (x : X) → slice_get xs at ≡ Some x → P at x

-- P holds of each member
abbrev pub Each : {X : Type 0} → List X → (X → Type 0) → Type 0
Each xs P = EachAt xs (λ _ x. P x)

-- no member stands at two places
abbrev pub AllDiffer : {X : Type 0} → List X → Type 0
AllDiffer {X} xs = (i j : ℕ) (x : X) → slice_get xs i ≡ Some x → slice_get xs j ≡ Some x → i ≡ j

-- the sort of the variable at a position of a kind
abbrev pub sort_at : Kind → ℕ → Option Sort
sort_at kind at = option_map (λ (v : Variable). v.sort) (slice_get kind.variables at)

abbrev pub IsNumberAt : Kind → ℕ → Type 0
IsNumberAt kind at = sort_at kind at ≡ Some Number

abbrev pub IsFutureAt : Kind → ℕ → Type 0
IsFutureAt kind at = sort_at kind at ≡ Some Future

-- the instruction at a position of a state
abbrev pub instr_at : State → ℕ → Option Instr
instr_at state at = option_map (λ (l : Line). l.instr) (slice_get state.code at)
