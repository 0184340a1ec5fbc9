-- What a line of a valid program does to the place and the futures of a frame.
use Rattle.std.proofs.Common.{◌≡◌, ℕ, ◌+◌, ◌<◌, Bool, true, false, cond, nat_eq, Option, Some, None, List, length, slice_get, refl, sym, ◌∙◌, ap, subst, ◌⊎◌, inl, inr, arith}
use Rattle.std.specs.Prelude.{slice_set}
use Rattle.std.specs.Option.{option_map}
use Rattle.std.proofs.lemmas.Bool.{eqb-true}
use Rattle.std.proofs.lemmas.Option.{slice_get_within}
use Rattle.std.proofs.lemmas.List.{length-set, set-get_or}
use Rattle.task_syntax.specs.Facts.{Facts, has, members_of, renewed, after}
use Rattle.task_syntax.specs.Places.{IsFutureAt}
use Rattle.task_syntax.specs.Form.{IsFormedInstr, Leaves}
use Rattle.task_syntax.specs.Valid.{Way, JumpsTo, IsSoundInstr}
use Rattle.task_syntax.specs.declared.value.Value.{Value}
use Rattle.task_syntax.specs.declared.value.Value.TheVariants.{Number, Trapped}
use Rattle.task_syntax.specs.declared.value.Priority.{Priority}
use Rattle.task_syntax.specs.declared.instr.Argument.{Argument}
use Rattle.task_syntax.specs.declared.instr.Instr.{Instr}
use Rattle.task_syntax.specs.declared.instr.Instr.TheVariants.{Set, Math, If, Goto, Label, Cell, Rows, Spawn, All, Copy, Drop, Get, Again, Done}
use Rattle.task_syntax.specs.declared.program.Variable.{Variable}
use Rattle.task_syntax.specs.declared.program.State.{State}
use Rattle.task_syntax.specs.declared.program.Kind.{Kind}
use Rattle.task_syntax.specs.declared.program.Program.{Program}
use Rattle.task_syntax.specs.declared.columns.Columns.{Columns}
use Rattle.task_syntax.specs.Columns.{rows_of}
use Rattle.task_meaning.specs.Meant.{future_at}
use Rattle.task_meaning.specs.Frame.{FrameOf, jump, go_on, set_number, set_future, operand, spawned}
use Rattle.task_meaning.specs.Arithmetic.{computed, compares, cell_at}
use Rattle.task_meaning.specs.Acts.{Act, Steps, Calls, Gathers, Reads, Respawns, act_of, steps_with}
use Rattle.run_model.proofs.ByNumber.{has_some}
use Rattle.run_model.proofs.FutureFacts.{Meets, meets_renewed, meets_given_up}

-- a future variable is one of the kind's
pub future_within : (kind : Kind) (x : ℕ) → IsFutureAt kind x → x < length kind.variables
future_within kind x e = by (slice_get kind.variables x) refl e
  where
    by : (o : Option Variable) → slice_get kind.variables x ≡ o → option_map (λ (v : Variable). v.sort) o ≡ Some Rattle.task_syntax.specs.declared.program.Sort.TheVariants.Future → x < length kind.variables
    by None g e = absurd (cc e)
    by (Some v) g e = slice_get_within kind.variables x v g

-- which instruction does an act that needs other tasks
abbrev pub Shape : Act ℕ → Instr → FrameOf ℕ → Type 0
Shape (Calls to call waits) instr q =
    (kind : ℕ) × (arguments : List Argument) × (priority : Priority) × (retry : Bool) × (instr ≡ Spawn to kind arguments waits priority retry) × (call ≡ spawned q kind arguments)
Shape (Gathers to members) instr q = (priority : Priority) × (retry : Bool) × (instr ≡ All to members priority retry)
Shape (Reads to x) instr q = instr ≡ Get to x
Shape (Respawns target waits) instr q = (priority : Priority) × (instr ≡ Again target waits priority)
Shape _ instr q = Unit {0}

-- a value alone needs no other task
plain_shape : (v : Value) (frame : ℕ → FrameOf ℕ) (instr : Instr) (q : FrameOf ℕ) → Shape (steps_with v frame) instr q
plain_shape (Number n) frame instr q = tt
plain_shape (Trapped t) frame instr q = tt

-- each act comes of its instruction
act_shape : (c : Columns) (instr : Instr) (q : FrameOf ℕ) → Shape (act_of c instr q) instr q
act_shape c (Math op to left right) q = plain_shape (computed op (operand q.numbers left) (operand q.numbers right)) (set_number q to) (Math op to left right) q
act_shape c (Cell to column row) q = plain_shape (cell_at c column (operand q.numbers row)) (set_number q to) (Cell to column row) q
act_shape c (Spawn to kind arguments waits priority retry) q = (kind, arguments, priority, retry, refl, refl)
act_shape c (All to members priority retry) q = (priority, retry, refl)
act_shape c (Get to x) q = refl
act_shape c (Again target waits priority) q = (priority, refl)
act_shape c _ q = tt

-- so an act that is known tells the instruction
pub shape_of : (c : Columns) (instr : Instr) (q : FrameOf ℕ) (a : Act ℕ) → act_of c instr q ≡ a → Shape a instr q
shape_of c instr q a e = subst (λ a. Shape a instr q) e (act_shape c instr q)

module _ (Given : ℕ → Type 0) (Among : ℕ → ℕ → Type 0) where
  -- the frame goes on to the next line, or jumps, and its futures meet the facts there
  pub record Onward (instr : Instr) (f : Facts) (q next : FrameOf ℕ) : Type 0 where
    pub kind : next.kind ≡ q.kind
    pub state : next.state ≡ q.state
    pub numbers : length next.numbers ≡ length q.numbers
    pub futures : length next.futures ≡ length q.futures
    pub goes : ((next.at ≡ q.at + 1) × ¬ Leaves instr × Meets Given Among (after instr f) next.futures) ⊎ (JumpsTo instr next.at × Meets Given Among f next.futures)

  -- a number is set
  pub number_onward : (instr : Instr) (f : Facts) (q next : FrameOf ℕ) (to n : ℕ) → ¬ Leaves instr → Meets Given Among (after instr f) q.futures → set_number q to n ≡ next → Onward instr f q next
  number_onward instr f q next to n stays now same =
      subst (λ k. Onward instr f q k) same (record { kind = refl; state = refl; numbers = length-set q.numbers to n; futures = refl; goes = inl (refl, stays, now) })

  -- a value that is a number is set
  value_onward : (instr : Instr) (f : Facts) (q next : FrameOf ℕ) (to : ℕ) (v : Value) → ¬ Leaves instr → Meets Given Among (after instr f) q.futures → steps_with v (set_number q to) ≡ Steps next → Onward instr f q next
  value_onward instr f q next to (Number n) stays now e = let same : set_number q to n ≡ next = cc in number_onward instr f q next to n stays now same
  value_onward instr f q next to (Trapped t) stays now e = absurd (cc e)

  -- a future is set
  pub future_onward : (instr : Instr) (f : Facts) (q next : FrameOf ℕ) (to : ℕ) (o : Option ℕ) → ¬ Leaves instr → Meets Given Among (after instr f) (slice_set q.futures to o) → set_future q to o ≡ next → Onward instr f q next
  future_onward instr f q next to o stays now same =
      subst (λ k. Onward instr f q k) same (record { kind = refl; state = refl; numbers = refl; futures = length-set q.futures to o; goes = inl (refl, stays, now) })

  -- nothing is set
  line_onward : (instr : Instr) (f : Facts) (q next : FrameOf ℕ) → ¬ Leaves instr → Meets Given Among (after instr f) q.futures → go_on q ≡ next → Onward instr f q next
  line_onward instr f q next stays now same = subst (λ k. Onward instr f q k) same (record { kind = refl; state = refl; numbers = refl; futures = refl; goes = inl (refl, stays, now) })

  -- the frame jumps
  jump_onward : (instr : Instr) (f : Facts) (q next : FrameOf ℕ) (target : ℕ) → JumpsTo instr target → Meets Given Among f q.futures → jump q target ≡ next → Onward instr f q next
  jump_onward instr f q next target jumps now same = subst (λ k. Onward instr f q k) same (record { kind = refl; state = refl; numbers = refl; futures = refl; goes = inr (jumps, now) })

  -- a line that needs no other task goes on
  pub steps_onward : (p : Program) (c : Columns) (kind : Kind) (state : State) (instr : Instr) (f : Facts) (q next : FrameOf ℕ) → IsFormedInstr p kind state q.at instr → IsSoundInstr p kind state q.at instr
      → length q.futures ≡ length kind.variables → Way state q.at f → Meets Given Among f q.futures → act_of c instr q ≡ Steps next → Onward instr f q next
  steps_onward p c kind state (Set to value) f q next formed sound size way now e =
      let same : set_number q to (operand q.numbers value) ≡ next = cc in number_onward (Set to value) f q next to (operand q.numbers value) (λ l. l) now same
  steps_onward p c kind state (Math op to left right) f q next formed sound size way now e =
      value_onward (Math op to left right) f q next to (computed op (operand q.numbers left) (operand q.numbers right)) (λ l. l) now e
  steps_onward p c kind state (If relation left right target) f q next formed sound size way now e = by (compares relation (operand q.numbers left) (operand q.numbers right)) e
    where
      by : (b : Bool) → Steps (cond b (jump q target) (go_on q)) ≡ Steps next → Onward (If relation left right target) f q next
      by true e = let same : jump q target ≡ next = cc in jump_onward (If relation left right target) f q next target refl now same
      by false e = let same : go_on q ≡ next = cc in line_onward (If relation left right target) f q next (λ l. l) now same
  steps_onward p c kind state (Goto target) f q next formed sound size way now e = let same : jump q target ≡ next = cc in jump_onward (Goto target) f q next target refl now same
  steps_onward p c kind state (Label name) f q next formed sound size way now e = let same : go_on q ≡ next = cc in line_onward (Label name) f q next (λ l. l) now same
  steps_onward p c kind state (Cell to column row) f q next formed sound size way now e = value_onward (Cell to column row) f q next to (cell_at c column (operand q.numbers row)) (λ l. l) now e
  steps_onward p c kind state (Rows to column) f q next formed sound size way now e =
      let same : set_number q to (rows_of c column) ≡ next = cc in number_onward (Rows to column) f q next to (rows_of c column) (λ l. l) now same
  steps_onward p c kind state (Copy to source) f q next formed sound size way now e =
      let same : set_future q to (future_at q.futures source) ≡ next = cc in
      future_onward (Copy to source) f q next to (future_at q.futures source) (λ l. l) (by (nat_eq to source) refl) same
    where
      names : (v : ℕ) × (future_at q.futures source ≡ Some v)
      names = has_some (future_at q.futures source) (now.held source (sound f way))

      by : (b : Bool) → nat_eq to source ≡ b → Meets Given Among (cond b f (renewed to (has source f.settled) (members_of source f.members) f)) (slice_set q.futures to (future_at q.futures source))
      by true e =
          let same : slice_set q.futures to (future_at q.futures source) ≡ q.futures = ap (λ x. slice_set q.futures to (future_at q.futures x)) (sym (eqb-true to source e)) ∙ set-get_or q.futures to None in
          subst (λ fs. Meets Given Among f fs) (sym same) now
      by false e =
          let (v, is) = names in
          let within : to < length q.futures = let w = future_within kind to formed.0 in omega (arith, w, size) in
          subst (λ o. Meets Given Among (renewed to (has source f.settled) (members_of source f.members) f) (slice_set q.futures to o)) (sym is)
          (meets_renewed Given Among f q.futures to v (has source f.settled) (members_of source f.members) now within
          (λ s. now.settled source v s is) (λ x u h k. now.members source x v u h is k))
  steps_onward p c kind state (Drop x) f q next formed sound size way now e =
      let same : set_future q x None ≡ next = cc in future_onward (Drop x) f q next x None (λ l. l) (meets_given_up Given Among f q.futures x now) same
  steps_onward p c kind state (Spawn to callee arguments waits priority retry) f q next formed sound size way now e = absurd (cc e)
  steps_onward p c kind state (All to members priority retry) f q next formed sound size way now e = absurd (cc e)
  steps_onward p c kind state (Get to x) f q next formed sound size way now e = absurd (cc e)
  steps_onward p c kind state (Again target waits priority) f q next formed sound size way now e = absurd (cc e)
  steps_onward p c kind state (Done value) f q next formed sound size way now e = absurd (cc e)
