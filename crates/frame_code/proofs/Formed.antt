-- What is known of the lines of a well-formed program, and of the lines that follow them.
use Rattle.std.proofs.Common.{◌≡◌, ℕ, ◌+◌, ◌<◌, Bool, true, false, cond, Option, Some, None, length, slice_get, refl, sym, ◌∙◌, ap, subst, ◌⊎◌, inl, inr, arith}
use Rattle.std.specs.Option.{option_map}
use Rattle.std.proofs.lemmas.Option.{slice_get_within}
use Rattle.std.proofs.lemmas.Bool.{cases_eq}
use Rattle.task_syntax.specs.Places.{instr_at}
use Rattle.task_syntax.specs.Form.{IsFormedState, IsFormedInstr, IsLabelAhead, Leaves, Ends}
use Rattle.task_syntax.specs.Valid.{JumpsTo}
use Rattle.task_syntax.specs.declared.value.Value.{Value}
use Rattle.task_syntax.specs.declared.value.Value.TheVariants as value
use Rattle.task_syntax.specs.declared.instr.Instr.{Instr}
use Rattle.task_syntax.specs.declared.instr.Instr.TheVariants.{Set, Math, If, Goto, Label, Cell, Rows, Spawn, All, Copy, Drop, Get, Again, Done}
use Rattle.task_syntax.specs.declared.instr.Line.{Line}
use Rattle.task_syntax.specs.declared.program.State.{State}
use Rattle.task_syntax.specs.declared.program.Kind.{Kind}
use Rattle.task_syntax.specs.declared.program.Program.{Program}
use Rattle.task_syntax.specs.declared.columns.Columns.{Columns}
use Rattle.task_syntax.specs.Columns.{rows_of}
use Rattle.task_meaning.specs.Frame.{FrameOf, jump, go_on, set_number, operand}
use Rattle.task_meaning.specs.Arithmetic.{computed, compares, cell_at}
use Rattle.task_meaning.specs.Acts.{Steps, act_of, steps_with}
use Rattle.frame_code.specs.Stops.{stop_at, trapped}
use Rattle.frame_code.specs.Line.{FitsKind}

-- an instruction that is formed fits its kind
pub formed-fits : (p : Program) (kind : Kind) (state : State) (at : ℕ) (instr : Instr) → IsFormedInstr p kind state at instr → FitsKind kind instr
formed-fits p kind state at (Set to value) h = h
formed-fits p kind state at (Math op to left right) h = h
formed-fits p kind state at (If relation left right target) h = (h.0, h.1)
formed-fits p kind state at (Goto target) h = tt
formed-fits p kind state at (Label name) h = tt
formed-fits p kind state at (Cell to column row) h = (h.0, h.2)
formed-fits p kind state at (Rows to column) h = h.0
formed-fits p kind state at (Spawn to callee arguments waits priority retry) h = (h.2, h.3)
formed-fits p kind state at (All to members priority retry) h = h.2
formed-fits p kind state at (Copy to source) h = tt
formed-fits p kind state at (Drop future) h = tt
formed-fits p kind state at (Get to future) h = tt
formed-fits p kind state at (Again target waits priority) h = tt
formed-fits p kind state at (Done value) h = h

-- where an instruction goes at which a frame does not stop, and what it leaves
pub record Moves {A : Type 0} (instr : Instr) (q next : FrameOf A) : Type 0 where
  pub kind : next.kind ≡ q.kind
  pub state : next.state ≡ q.state
  pub futures : next.futures ≡ q.futures
  pub goes : ((next.at ≡ q.at + 1) × ¬ Leaves instr) ⊎ JumpsTo instr next.at

module _ {A : Type 0} (q next : FrameOf A) where
  moves-set : (instr : Instr) (to n : ℕ) → ¬ Leaves instr → set_number q to n ≡ next → Moves instr q next
  moves-set instr to n stays s = subst (λ r. Moves instr q r) s (record { kind = refl; state = refl; futures = refl; goes = inl (refl, stays) })

  moves-number : (instr : Instr) (to : ℕ) (v : Value) → ¬ Leaves instr → trapped v ≡ None → steps_with v (set_number q to) ≡ Steps next → Moves instr q next
  moves-number instr to (value.Number n) stays none e = let s : set_number q to n ≡ next = cc in moves-set instr to n stays s
  moves-number instr to (value.Trapped t) stays none e = cc

  moves-if : (instr : Instr) (holds : Bool) (target : ℕ) → ¬ Leaves instr → JumpsTo instr target → Steps (cond holds (jump q target) (go_on q)) ≡ Steps next
      → Moves instr q next
  moves-if instr true target stays jumps e = let s : jump q target ≡ next = cc in
      subst (λ r. Moves instr q r) s (record { kind = refl; state = refl; futures = refl; goes = inr jumps })
  moves-if instr false target stays jumps e = let s : go_on q ≡ next = cc in
      subst (λ r. Moves instr q r) s (record { kind = refl; state = refl; futures = refl; goes = inl (refl, stays) })

  pub passes-moves : (c : Columns) (instr : Instr) → stop_at c instr q ≡ None → act_of c instr q ≡ Steps next → Moves instr q next
  passes-moves c (Set to value) none e = let s : set_number q to (operand q.numbers value) ≡ next = cc in moves-set (Set to value) to (operand q.numbers value) (λ h. h) s
  passes-moves c (Math op to left right) none e =
      moves-number (Math op to left right) to (computed op (operand q.numbers left) (operand q.numbers right)) (λ h. h) none e
  passes-moves c (If relation left right target) none e =
      moves-if (If relation left right target) (compares relation (operand q.numbers left) (operand q.numbers right)) target (λ h. h) refl e
  passes-moves c (Goto target) none e = let s : jump q target ≡ next = cc in
      subst (λ r. Moves (Goto target) q r) s (record { kind = refl; state = refl; futures = refl; goes = inr refl })
  passes-moves c (Label name) none e = let s : go_on q ≡ next = cc in
      subst (λ r. Moves (Label name) q r) s (record { kind = refl; state = refl; futures = refl; goes = inl (refl, λ h. h) })
  passes-moves c (Cell to column row) none e = moves-number (Cell to column row) to (cell_at c column (operand q.numbers row)) (λ h. h) none e
  passes-moves c (Rows to column) none e = let s : set_number q to (rows_of c column) ≡ next = cc in moves-set (Rows to column) to (rows_of c column) (λ h. h) s
  passes-moves c (Spawn to kind arguments waits priority retry) none e = cc
  passes-moves c (All to members priority retry) none e = cc
  passes-moves c (Copy to source) none e = cc
  passes-moves c (Drop future) none e = cc
  passes-moves c (Get to future) none e = cc
  passes-moves c (Again target waits priority) none e = cc
  passes-moves c (Done value) none e = cc

-- where a jump of a well-formed instruction goes a label stands, further ahead
pub jump-label : (p : Program) (kind : Kind) (state : State) (at to : ℕ) (instr : Instr) → IsFormedInstr p kind state at instr → JumpsTo instr to → IsLabelAhead state at to
jump-label p kind state at to (If relation left right target) h j = subst (λ t. IsLabelAhead state at t) j h.2
jump-label p kind state at to (Goto target) h j = subst (λ t. IsLabelAhead state at t) j h
jump-label p kind state at to _ h j = absurd j

ends-leaves : (instr : Instr) → Ends instr → Leaves instr
ends-leaves (Again target waits priority) h = h
ends-leaves (Done value) h = h
ends-leaves (Goto target) h = absurd h
ends-leaves _ h = absurd h

instr-of : (state : State) (at : ℕ) (line : Line) → slice_get state.code at ≡ Some line → instr_at state at ≡ Some line.instr
instr-of state at line e = ap (λ o. option_map (λ (l : Line). l.instr) o) e

-- a line stands where an instruction does
pub instr-within : (state : State) (at : ℕ) (instr : Instr) → instr_at state at ≡ Some instr → at < length state.code
instr-within state at instr e = by (slice_get state.code at) refl e
  where
    by : (o : Option Line) → slice_get state.code at ≡ o → option_map (λ (l : Line). l.instr) o ≡ Some instr → at < length state.code
    by None g e = cc
    by (Some line) g e = slice_get_within state.code at line g

-- after a line that may go on there is another
pub line-follows : (p : Program) (kind : Kind) (state : State) (at : ℕ) (line : Line) → IsFormedState p kind state → slice_get state.code at ≡ Some line
    → ¬ Leaves line.instr → at + 1 < length state.code
line-follows p kind state at line formed e stays =
    let last = formed.ends in
    let w = slice_get_within state.code at line e in
    elim (cases_eq at last.0) [
      | inl s ↦
          let i : instr_at state at ≡ Some last.1 = ap (λ n. instr_at state n) s ∙ last.3 in
          let t : Some line.instr ≡ Some last.1 = sym (instr-of state at line e) ∙ i in
          let same : line.instr ≡ last.1 = cc in
          absurd (stays (ends-leaves line.instr (subst Ends (sym same) last.4)))
      | inr s ↦ omega (arith, s, last.2)
    ]

-- the line to which a frame goes on is there, and further ahead
pub next-line : {A : Type 0} (p : Program) (kind : Kind) (state : State) (line : Line) (q next : FrameOf A) → IsFormedState p kind state → slice_get state.code q.at ≡ Some line
    → Moves line.instr q next → (q.at < next.at) × (next.at < length state.code)
next-line p kind state line q next formed e m = elim m.goes [
  | inl g ↦ let s = g.0 in let w = line-follows p kind state q.at line formed e g.1 in (omega arith, omega arith)
  | inr j ↦ let l = jump-label p kind state q.at next.at line.instr (formed.instrs q.at line e) j in (l.0, instr-within state next.at l.1.0 l.1.1)
]
