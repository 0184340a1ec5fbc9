-- In a well-formed program each jump, and each step of a task, goes ahead.
use Rattle.std.specs.Prelude.{◌≡◌, ℕ, ◌<◌, Bool, true, false, cond, Option, Some, None, slice_get}
use Rattle.std.proofs.Common.{refl, subst, arith}
use Rattle.task_syntax.specs.Form.{IsWellFormed, IsFormedKind, IsFormedInstr}
use Rattle.task_syntax.specs.declared.value.Value.{Value}
use Rattle.task_syntax.specs.declared.value.Value.TheVariants.{Number, Trapped}
use Rattle.task_syntax.specs.declared.instr.Instr.{Instr}
use Rattle.task_syntax.specs.declared.instr.Instr.TheVariants.{Set, Math, If, Goto, Label, Cell, Rows, Spawn, All, Copy, Drop, Get, Again, Done}
use Rattle.task_syntax.specs.declared.instr.Line.{Line}
use Rattle.task_syntax.specs.declared.program.State.{State}
use Rattle.task_syntax.specs.declared.program.Kind.{Kind}
use Rattle.task_syntax.specs.declared.program.Program.{Program}
use Rattle.task_syntax.specs.declared.columns.Columns.{Columns}
use Rattle.task_meaning.specs.Frame.{FrameOf, code_in, state_in, code_at, jump, go_on, set_number, operand}
use Rattle.task_meaning.specs.Arithmetic.{computed, compares, cell_at}
use Rattle.task_meaning.specs.Acts.{Act, Steps, steps_with, act_of, JumpsAhead}

-- each jump of the program goes ahead
abbrev pub AllJumpAhead : Program → Type 0
AllJumpAhead p = (kind state at : ℕ) (line : Line) → slice_get (code_at p kind state) at ≡ Some line → JumpsAhead at line.instr

instr-ahead : (p : Program) (k : Kind) (s : State) (at : ℕ) (instr : Instr) → IsFormedInstr p k s at instr → JumpsAhead at instr
instr-ahead p k s at (If relation left right target) h to e = subst (λ (t : ℕ). at < t) e h.2.0
instr-ahead p k s at (Goto target) h to e = subst (λ (t : ℕ). at < t) e h.0
instr-ahead p k s at _ h to e = absurd e

-- in a well-formed program each jump goes ahead
pub jumps_ahead : (p : Program) → IsWellFormed p → AllJumpAhead p
jumps_ahead p formed kind state at line e = in_kind (slice_get p.kinds kind) (λ k x. formed.kinds kind k x) e
  where
    in_state : (k : Kind) (o : Option State) → ((s : State) → o ≡ Some s → (i : ℕ) (l : Line) → slice_get s.code i ≡ Some l → IsFormedInstr p k s i l.instr)
        → slice_get (code_in o) at ≡ Some line → JumpsAhead at line.instr
    in_state k None h f = absurd (cc f)
    in_state k (Some s) h f = instr-ahead p k s at line.instr (h s refl at line f)

    in_kind : (o : Option Kind) → ((k : Kind) → o ≡ Some k → IsFormedKind p k) → slice_get (code_in (state_in o state)) at ≡ Some line → JumpsAhead at line.instr
    in_kind None h f = absurd (cc f)
    in_kind (Some k) h f = in_state k (slice_get k.states state) (λ s x. (((h k refl).states) state s x).instrs) f

-- a step leads to a later line of the same state
abbrev pub StepsAhead : {A : Type 0} → FrameOf A → Act A → Type 0
StepsAhead q (Steps next) = (next.kind ≡ q.kind) × (next.state ≡ q.state) × (q.at < next.at)
StepsAhead q _ = Unit {0}

number-ahead : {A : Type 0} (q : FrameOf A) (v : Value) (to : ℕ) → StepsAhead q (steps_with v (set_number q to))
number-ahead q (Number n) to = (refl, refl, omega arith)
number-ahead q (Trapped t) to = tt

branch-ahead : {A : Type 0} (q : FrameOf A) (b : Bool) (target : ℕ) → q.at < target → StepsAhead q (Steps (cond b (jump q target) (go_on q)))
branch-ahead q true target e = (refl, refl, e)
branch-ahead q false target e = (refl, refl, omega arith)

-- an instruction that jumps ahead at most steps to a later line
pub act-ahead : {A : Type 0} (c : Columns) (instr : Instr) (q : FrameOf A) → JumpsAhead q.at instr → StepsAhead q (act_of c instr q)
act-ahead c (Set to value) q h = (refl, refl, omega arith)
act-ahead c (Math op to left right) q h = number-ahead q (computed op (operand q.numbers left) (operand q.numbers right)) to
act-ahead c (If relation left right target) q h = branch-ahead q (compares relation (operand q.numbers left) (operand q.numbers right)) target (h target refl)
act-ahead c (Goto target) q h = (refl, refl, h target refl)
act-ahead c (Label name) q h = (refl, refl, omega arith)
act-ahead c (Cell to column row) q h = number-ahead q (cell_at c column (operand q.numbers row)) to
act-ahead c (Rows to column) q h = (refl, refl, omega arith)
act-ahead c (Spawn to kind arguments waits priority retry) q h = tt
act-ahead c (All to members priority retry) q h = tt
act-ahead c (Copy to source) q h = (refl, refl, omega arith)
act-ahead c (Drop future) q h = (refl, refl, omega arith)
act-ahead c (Get to future) q h = tt
act-ahead c (Again target waits priority) q h = tt
act-ahead c (Done value) q h = tt
