-- A frame is where a task stands and what its variables hold; a call is a kind with arguments.
-- Both are generic in what a future is: the value of a task, its number, or a word for it.
-- Numbers and futures are two lists, both by the position of the variable; where the sort is the other, a dummy stands.
use Rattle.std.specs.Prelude.{ℕ, ◌+◌, ◌-◌, cond, Option, Some, None, List, [], ◌∷◌, ◌++◌, map, length, replicate, slice_get, slice_index, slice_set}
use Rattle.task_syntax.specs.Facts.{has}
use Rattle.task_syntax.specs.declared.value.Value.{Value}
use Rattle.task_syntax.specs.declared.instr.Operand.{Operand}
use Rattle.task_syntax.specs.declared.instr.Operand.TheVariants.{Literal, Variable}
use Rattle.task_syntax.specs.declared.instr.Argument.{Argument}
use Rattle.task_syntax.specs.declared.instr.Argument.TheVariants.{Number, Future}
use Rattle.task_syntax.specs.declared.instr.Line.{Line}
use Rattle.task_syntax.specs.declared.program.State.{State}
use Rattle.task_syntax.specs.declared.program.Kind.{Kind}
use Rattle.task_syntax.specs.declared.program.Program.{Program}
use Rattle.task_meaning.specs.Meant.{future_at}

pub record FrameOf (A : Type 0) : Type 0 where
  pub kind : ℕ
  pub state : ℕ
  pub at : ℕ
  pub numbers : List ℕ
  pub futures : List (Option A)

pub record CallOf (A : Type 0) : Type 0 where
  pub kind : ℕ
  pub numbers : List ℕ
  pub futures : List (Option A)

-- a frame and a call in which a future is its value, where it has one
abbrev pub Place : Type 0
Place = FrameOf Value

abbrev pub Call : Type 0
Call = CallOf Value

abbrev pub variables_in : Option Kind → ℕ
variables_in None = 0
variables_in (Some kind) = length kind.variables

-- the number of variables of a kind
abbrev pub variables_of : Program → ℕ → ℕ
variables_of p kind = variables_in (slice_get p.kinds kind)

abbrev pub state_in : Option Kind → ℕ → Option State
state_in None at = None
state_in (Some kind) at = slice_get kind.states at

-- the state of a kind at a position
abbrev pub state_at : Program → ℕ → ℕ → Option State
state_at p kind at = state_in (slice_get p.kinds kind) at

abbrev pub code_in : Option State → List Line
code_in None = []
code_in (Some state) = state.code

-- the lines of a state
abbrev pub code_at : Program → ℕ → ℕ → List Line
code_at p kind state = code_in (state_at p kind state)

abbrev pub holds_in : Option State → List ℕ
holds_in None = []
holds_in (Some state) = state.holds

-- the futures that a state holds at its start
abbrev pub holds_at : Program → ℕ → ℕ → List ℕ
holds_at p kind state = holds_in (state_at p kind state)

-- the list made at least n long
abbrev pub padded : {A : Type 0} → ℕ → A → List A → List A
padded n dummy xs = xs ++ replicate (n - length xs) dummy

abbrev pub kept_from : {A : Type 0} → ℕ → List ℕ → List (Option A) → List (Option A)
kept_from at held [] = []
kept_from at held (f ∷ fs) = cond (has at held) f None ∷ kept_from (at + 1) held fs

-- the futures at the held positions; the others are given up
abbrev pub kept : {A : Type 0} → List ℕ → List (Option A) → List (Option A)
kept held futures = kept_from 0 held futures

-- the frame at the start of a call
abbrev pub entry : {A : Type 0} → Program → CallOf A → FrameOf A
entry p call = record {
  kind = call.kind;
  state = 0;
  at = 0;
  numbers = padded (variables_of p call.kind) 0 call.numbers;
  futures = kept (holds_at p call.kind 0) (padded (variables_of p call.kind) None call.futures);
}

-- the frame at the start of a further state of the same task
abbrev pub enter : {A : Type 0} → Program → FrameOf A → ℕ → FrameOf A
enter p frame target = record {
  kind = frame.kind;
  state = target;
  at = 0;
  numbers = frame.numbers;
  futures = kept (holds_at p frame.kind target) frame.futures;
}

-- the frame at another line of its state
abbrev pub jump : {A : Type 0} → FrameOf A → ℕ → FrameOf A
jump frame target = record frame { at = target }

-- the frame at the next line
abbrev pub go_on : {A : Type 0} → FrameOf A → FrameOf A
go_on frame = jump frame (frame.at + 1)

-- the frame at the next line, and the variable holds the number
abbrev pub set_number : {A : Type 0} → FrameOf A → ℕ → ℕ → FrameOf A
set_number frame x n = record frame { at = frame.at + 1; numbers = slice_set frame.numbers x n }

-- the frame at the next line, and the variable names the future
abbrev pub set_future : {A : Type 0} → FrameOf A → ℕ → Option A → FrameOf A
set_future frame x future = record frame { at = frame.at + 1; futures = slice_set frame.futures x future }

-- the number that an operand stands for
abbrev pub operand : List ℕ → Operand → ℕ
operand numbers (Literal n) = n
operand numbers (Variable x) = slice_index numbers x

abbrev pub number_passed : List ℕ → Argument → ℕ
number_passed numbers (Number a) = operand numbers a
number_passed numbers (Future x) = 0

abbrev pub future_passed : {A : Type 0} → List (Option A) → Argument → Option A
future_passed futures (Number a) = None
future_passed futures (Future x) = future_at futures x

-- the call that a spawn makes
abbrev pub spawned : {A : Type 0} → FrameOf A → ℕ → List Argument → CallOf A
spawned frame kind arguments = record {
  kind = kind;
  numbers = map (number_passed frame.numbers) arguments;
  futures = map (future_passed frame.futures) arguments;
}

-- a future under other names
abbrev pub renamed : {A B : Type 0} → (A → Option B) → Option A → Option B
renamed name None = None
renamed name (Some a) = name a

-- a frame and a call whose futures have other names
abbrev pub frame_with : {A B : Type 0} → (A → Option B) → FrameOf A → FrameOf B
frame_with name frame = record {
  kind = frame.kind;
  state = frame.state;
  at = frame.at;
  numbers = frame.numbers;
  futures = map (renamed name) frame.futures;
}

abbrev pub call_with : {A B : Type 0} → (A → Option B) → CallOf A → CallOf B
call_with name call = record { kind = call.kind; numbers = call.numbers; futures = map (renamed name) call.futures }
