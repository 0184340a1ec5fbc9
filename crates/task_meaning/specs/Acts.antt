-- What a task does next in a frame, and what follows it.
use Rattle.std.specs.Prelude.{◌≡◌, ℕ, suc, ◌<◌, cond, Option, Some, None, List, slice_get}
use Rattle.task_syntax.specs.Valid.{JumpsTo}
use Rattle.task_syntax.specs.declared.value.Value.{Value}
use Rattle.task_syntax.specs.declared.value.Value.TheVariants.{Number, Trapped}
use Rattle.task_syntax.specs.declared.instr.Instr.{Instr}
use Rattle.task_syntax.specs.declared.instr.Instr.TheVariants.{Set, Math, If, Goto, Label, Cell, Rows, Spawn, All, Copy, Drop, Get, Again, Done}
use Rattle.task_syntax.specs.declared.instr.Line.{Line}
use Rattle.task_syntax.specs.declared.program.Program.{Program}
use Rattle.task_syntax.specs.declared.columns.Columns.{Columns}
use Rattle.task_meaning.specs.Meant.{Meant, counted, gives, adding, with_value, with_number, future_at, behind}
use Rattle.task_meaning.specs.Frame.{FrameOf, CallOf, Place, code_at, enter, jump, go_on, set_number, set_future, operand, spawned, frame_with, call_with}
use Rattle.task_syntax.specs.Columns.{rows_of}
use Rattle.task_meaning.specs.Arithmetic.{computed, compares, cell_at}
use Rattle.task_meaning.specs.Meaning.{child_of, aggregate_of, with_child, rest}

-- A task goes on in another frame of the same state, calls, gathers members, reads a future, respawns, or finishes.
pub data Act (A : Type 0) : Type 0 where
  Steps : FrameOf A → Act A
  Calls : ℕ → CallOf A → Option ℕ → Act A
  Gathers : ℕ → List ℕ → Act A
  Reads : ℕ → ℕ → Act A
  Respawns : ℕ → Option ℕ → Act A
  Finishes : Value → Act A

-- goes on with the number; a trap finishes the task
abbrev pub steps_with : {A : Type 0} → Value → (ℕ → FrameOf A) → Act A
steps_with (Number n) frame = Steps (frame n)
steps_with (Trapped t) frame = Finishes (Trapped t)

-- the act of an instruction in a frame
abbrev pub act_of : {A : Type 0} → Columns → Instr → FrameOf A → Act A
act_of c (Set to value) q = Steps (set_number q to (operand q.numbers value))
act_of c (Math op to left right) q = steps_with (computed op (operand q.numbers left) (operand q.numbers right)) (set_number q to)
act_of c (If relation left right target) q =
    Steps (cond (compares relation (operand q.numbers left) (operand q.numbers right)) (jump q target) (go_on q))
act_of c (Goto target) q = Steps (jump q target)
act_of c (Label name) q = Steps (go_on q)
act_of c (Cell to column row) q = steps_with (cell_at c column (operand q.numbers row)) (set_number q to)
act_of c (Rows to column) q = Steps (set_number q to (rows_of c column))
act_of c (Spawn to kind arguments waits priority retry) q = Calls to (spawned q kind arguments) waits
act_of c (All to members priority retry) q = Gathers to members
act_of c (Copy to source) q = Steps (set_future q to (future_at q.futures source))
act_of c (Drop future) q = Steps (set_future q future None)
act_of c (Get to future) q = Reads to future
act_of c (Again target waits priority) q = Respawns target waits
act_of c (Done value) q = Finishes (Number (operand q.numbers value))

-- the instruction jumps ahead of its position, if at all
abbrev pub JumpsAhead : ℕ → Instr → Type 0
JumpsAhead at instr = (to : ℕ) → JumpsTo instr to → at < to

-- the frame stands at a line that does this
abbrev pub ActsAt : {A : Type 0} → Program → Columns → FrameOf A → Act A → Type 0
ActsAt p c q act = (line : Line) × (slice_get (code_at p q.kind q.state) q.at ≡ Some line) × (act_of c line.instr q ≡ act)

-- what follows an act, where `less` is what places mean with one fuel less, and `same` with as much
abbrev pub follows : Program → (Place → Meant) → (Place → Meant) → Act Value → Place → Meant
follows p less same (Steps next) q = same next
follows p less same (Calls to call waits) q = with_child (child_of p less waits call q.futures) same q to
follows p less same (Gathers to members) q = with_child (aggregate_of members q.futures) same q to
follows p less same (Reads to future) q = with_value (future_at q.futures future) (λ v. with_number v (λ n. same (set_number q to n)))
follows p less same (Respawns target waits) q = behind waits q.futures (adding (counted 0 1) (less (enter p q target)))
follows p less same (Finishes v) q = gives v

-- what follows an act, where a fuel above n is left
abbrev pub followed : Program → Columns → ℕ → Act Value → Place → Meant
followed p c n act q = follows p (rest p c n) (rest p c (suc n)) act q

-- an act whose futures have other names
abbrev pub act_with : {A B : Type 0} → (A → Option B) → Act A → Act B
act_with name (Steps next) = Steps (frame_with name next)
act_with name (Calls to call waits) = Calls to (call_with name call) waits
act_with name (Gathers to members) = Gathers to members
act_with name (Reads to future) = Reads to future
act_with name (Respawns target waits) = Respawns target waits
act_with name (Finishes v) = Finishes v
