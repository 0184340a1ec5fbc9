-- At which lines a frame stops and what it asks for there, and what `advance` does to a frame.
use Rattle.std.specs.Prelude.{◌≡◌, ℕ, Option, Some, None, List, [], ◌∷◌, slice_get}
use Rattle.task_syntax.specs.declared.value.Value.{Value}
use Rattle.task_syntax.specs.declared.value.Value.TheVariants as value
use Rattle.task_syntax.specs.declared.instr.Argument.{Argument}
use Rattle.task_syntax.specs.declared.instr.Argument.TheVariants as argument
use Rattle.task_syntax.specs.declared.instr.Instr.{Instr}
use Rattle.task_syntax.specs.declared.instr.Instr.TheVariants.{Math, Cell, Spawn, All, Copy, Drop, Get, Again, Done}
use Rattle.task_syntax.specs.declared.instr.Line.{Line}
use Rattle.task_syntax.specs.declared.program.Program.{Program}
use Rattle.task_syntax.specs.declared.columns.Columns.{Columns}
use Rattle.task_meaning.specs.Frame.{FrameOf, operand, code_at}
use Rattle.task_meaning.specs.Acts.{Steps, act_of}
use Rattle.task_meaning.specs.Arithmetic.{computed, cell_at}
use Rattle.frame_code.specs.Words.{BodyOf, OfKind, OfMembers}
use Rattle.frame_code.specs.Members.{member_act}
use Rattle.frame_code.specs.declared.act.Act.{Act}
use Rattle.frame_code.specs.declared.act.Act.TheVariants as act

-- what a spawn passes: the numbers in order
abbrev pub numbers_passed : List ℕ → List Argument → List ℕ
numbers_passed numbers [] = []
numbers_passed numbers (argument.Number a ∷ more) = operand numbers a ∷ numbers_passed numbers more
numbers_passed numbers (argument.Future x ∷ more) = numbers_passed numbers more

-- and the variables of the futures in order
abbrev pub variables_passed : List Argument → List ℕ
variables_passed [] = []
variables_passed (argument.Number a ∷ more) = variables_passed more
variables_passed (argument.Future x ∷ more) = x ∷ variables_passed more

abbrev pub trapped : Value → Option Act
trapped (value.Number n) = None
trapped (value.Trapped t) = Some (act.Trap t)

-- What a frame asks for at an instruction, if it stops there. An operation and a read of a column stop it by a trap alone.
abbrev pub stop_at : {A : Type 0} → Columns → Instr → FrameOf A → Option Act
stop_at c (Math op to left right) q = trapped (computed op (operand q.numbers left) (operand q.numbers right))
stop_at c (Cell to column row) q = trapped (cell_at c column (operand q.numbers row))
stop_at c (Spawn to kind arguments waits priority retry) q = Some (act.Spawn (record {
  to = to;
  kind = kind;
  numbers = numbers_passed q.numbers arguments;
  futures = variables_passed arguments;
  behind = waits;
  priority = priority;
  retry = retry;
}))
stop_at c (All to members priority retry) q = Some (act.All (record { to = to; members = members; priority = priority; retry = retry }))
stop_at c (Copy to source) q = Some (act.Copy to source)
stop_at c (Drop future) q = Some (act.Drop future)
stop_at c (Get to future) q = Some (act.NeedsValue future)
stop_at c (Again target waits priority) q = Some (act.Again (record { target = target; behind = waits; priority = priority }))
stop_at c (Done a) q = Some (act.Done (operand q.numbers a))
stop_at c _ q = None

-- the frame stands at a line of which P holds
abbrev pub StandsAt : {A : Type 0} → Program → (Line → Type 0) → FrameOf A → Type 0
StandsAt p P q = (line : Line) × (slice_get (code_at p q.kind q.state) q.at ≡ Some line) × P line

-- the frame stands at a line where it stops and asks for this
abbrev pub StopsAt : {A : Type 0} → Program → Columns → FrameOf A → Act → Type 0
StopsAt p c q asked = StandsAt p (λ line. stop_at c line.instr q ≡ Some asked) q

-- the frame stands at a line where it does not stop, and its next frame is this one
abbrev pub Passes : {A : Type 0} → Program → Columns → FrameOf A → FrameOf A → Type 0
Passes p c q next = StandsAt p (λ line. (stop_at c line.instr q ≡ None) × (act_of c line.instr q ≡ Steps next)) q

-- the frame goes on to another, line by line, and stops at none of them
pub data GoesTo {A : Type 0} (p : Program) (c : Columns) (q : FrameOf A) : FrameOf A → Type 0 where
  stays : GoesTo p c q q
  passes : {at next : FrameOf A} → GoesTo p c q at → Passes p c at next → GoesTo p c q next

-- what `advance` does to a body: it goes on to the first line where it stops, and stands there; an aggregate stands as it is
abbrev pub BodyAdvances : Program → Columns → BodyOf ℕ → Act → BodyOf ℕ → Type 0
BodyAdvances p c (OfKind q) asked (OfKind last) = GoesTo p c q last × StopsAt p c last asked
BodyAdvances p c (OfMembers members next) asked (OfMembers same at) = (same ≡ members) × (at ≡ next) × (member_act (slice_get members next) next ≡ asked)
BodyAdvances p c _ asked _ = ⊥
