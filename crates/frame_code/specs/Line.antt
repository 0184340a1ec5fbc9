-- One line of a task over the words of its frame, as the calls inside this crate say it.
use Rattle.std.specs.Prelude.{◌≡◌, ℕ, ◌+◌, ◌≤◌, Bool, Some, None, List, [], ◌∷◌, length, slice_index}
use Rattle.task_syntax.specs.Places.{Each, IsNumberAt}
use Rattle.task_syntax.specs.Form.{IsFormedOperand, IsFormedArgument}
use Rattle.task_syntax.specs.declared.program.Variable.{Variable}
use Rattle.task_syntax.specs.declared.program.Kind.{Kind}
use Rattle.task_syntax.specs.declared.value.Value.{Value}
use Rattle.task_syntax.specs.declared.instr.Operand.{Operand}
use Rattle.task_syntax.specs.declared.instr.Relation.{Relation}
use Rattle.task_syntax.specs.declared.instr.Instr.{Instr}
use Rattle.task_syntax.specs.declared.instr.Instr.TheVariants.{Set, Math, If, Cell, Rows, Spawn, All, Copy, Drop, Get, Again, Done}
use Rattle.task_syntax.specs.declared.columns.Columns.{Columns}
use Rattle.task_meaning.specs.Frame.{FrameOf, jump, set_number, operand}
use Rattle.task_meaning.specs.Arithmetic.{compares}
use Rattle.task_meaning.specs.Acts.{Steps, act_of, steps_with}
use Rattle.frame_code.specs.Words.{one_if_number, numbers_from, kind_frame}
use Rattle.frame_code.specs.Stops.{stop_at, trapped}
use Rattle.frame_code.specs.declared.act.Act.{Act}
use Rattle.frame_code.specs.declared.act.Act.TheVariants as act
use Rattle.frame_code.specs.declared.line.Step.{Step}
use Rattle.frame_code.specs.declared.line.Step.TheVariants.{Goes, Traps, Asks}

-- by the position of the variable: the place of its word, where the next number is at this place; of a future, that of the
-- next number
abbrev pub places_from : ℕ → List Variable → List ℕ
places_from place [] = []
places_from place (v ∷ vs) = place ∷ places_from (place + one_if_number v.sort) vs

-- these are the places of a kind's numbers, and there is a word for each of its variables
pub record IsLaidOut (kind : Kind) (places words : List ℕ) : Type 0 where
  pub placed : places ≡ places_from 1 kind.variables
  pub size : length words ≡ 1 + length kind.variables

-- what the number variables of a kind have
abbrev pub numbers_of : Kind → List ℕ → List ℕ
numbers_of kind words = numbers_from (slice_index words) 1 kind.variables

-- the frame that the words of a task of this kind say, at this line
abbrev pub standing : Kind → List ℕ → ℕ → FrameOf ℕ
standing kind words at = jump (kind_frame kind.variables (slice_index words)) at

-- the number variables that an instruction names are variables of the kind, and it passes no more than an act has room for
abbrev pub FitsKind : Kind → Instr → Type 0
FitsKind kind (Set to value) = IsNumberAt kind to × IsFormedOperand kind value
FitsKind kind (Math op to left right) = IsNumberAt kind to × IsFormedOperand kind left × IsFormedOperand kind right
FitsKind kind (If relation left right target) = IsFormedOperand kind left × IsFormedOperand kind right
FitsKind kind (Cell to column row) = IsNumberAt kind to × IsFormedOperand kind row
FitsKind kind (Rows to column) = IsNumberAt kind to
FitsKind kind (Spawn to callee arguments waits priority retry) = (length arguments ≤ 16) × Each arguments (IsFormedArgument kind)
FitsKind kind (All to members priority retry) = length members ≤ 8
FitsKind kind (Done value) = IsFormedOperand kind value
FitsKind kind _ = Unit {0}

-- the instruction gives a number variable the value that it works out
abbrev pub IsSet : Instr → Type 0
IsSet (Set to value) = Unit {0}
IsSet (Math op to left right) = Unit {0}
IsSet (Cell to column row) = Unit {0}
IsSet (Rows to column) = Unit {0}
IsSet _ = ⊥

-- the instruction calls other tasks
abbrev pub Calls : Instr → Type 0
Calls (Spawn to kind arguments waits priority retry) = Unit {0}
Calls (All to members priority retry) = Unit {0}
Calls _ = ⊥

-- a task always stops at the instruction, which calls no other task
abbrev pub StopsAlone : Instr → Type 0
StopsAlone (Copy to source) = Unit {0}
StopsAlone (Drop future) = Unit {0}
StopsAlone (Get to future) = Unit {0}
StopsAlone (Again target waits priority) = Unit {0}
StopsAlone (Done value) = Unit {0}
StopsAlone _ = ⊥

-- a task always stops at the instruction
abbrev pub AlwaysStops : Instr → Type 0
AlwaysStops (Spawn to kind arguments waits priority retry) = Unit {0}
AlwaysStops (All to members priority retry) = Unit {0}
AlwaysStops (Copy to source) = Unit {0}
AlwaysStops (Drop future) = Unit {0}
AlwaysStops (Get to future) = Unit {0}
AlwaysStops (Again target waits priority) = Unit {0}
AlwaysStops (Done value) = Unit {0}
AlwaysStops _ = ⊥

-- what came of an instruction at a line: the task goes to another line, or it stops by a trap, or it always stops there
abbrev pub IsStep : Columns → Kind → Instr → ℕ → List ℕ → Step → List ℕ → Type 0
IsStep c kind instr at old (Goes next) new = (stop_at c instr (standing kind old at) ≡ None) × (act_of c instr (standing kind old at) ≡ Steps (standing kind new next))
IsStep c kind instr at old (Traps trap) new = (stop_at c instr (standing kind old at) ≡ Some (act.Trap trap)) × (new ≡ old)
IsStep c kind instr at old Asks new = AlwaysStops instr × (new ≡ old)

-- what came of setting a number variable at a line to a value: the task goes to the next line, or it stops by a trap
abbrev pub IsPut : Kind → Value → ℕ → ℕ → List ℕ → Step → List ℕ → Type 0
IsPut kind v at to old (Goes next) new = (trapped v ≡ None) × (steps_with v (set_number (standing kind old at) to) ≡ Steps (standing kind new next))
IsPut kind v at to old (Traps trap) new = (trapped v ≡ Some (act.Trap trap)) × (new ≡ old)
IsPut kind v at to old Asks new = ⊥

-- the second words have this number in the variable, and are else as the first ones
pub record SetsNumber (kind : Kind) (to number : ℕ) (old new : List ℕ) : Type 0 where
  pub set : (at : ℕ) → standing kind new (at + 1) ≡ set_number (standing kind old at) to number
  pub head : slice_index new 0 ≡ slice_index old 0

-- the numbers that two operands stand for compare so
abbrev pub operands_compare : Kind → List ℕ → Relation → Operand → Operand → Bool
operands_compare kind words relation left right = compares relation (operand (numbers_of kind words) left) (operand (numbers_of kind words) right)

-- what a frame asks for at an instruction, whatever the columns are
abbrev pub AsksFor : Kind → Instr → List ℕ → Act → Type 0
AsksFor kind instr words asked = (c : Columns) (at : ℕ) → stop_at c instr (standing kind words at) ≡ Some asked
