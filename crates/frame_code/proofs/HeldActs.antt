-- In a valid program the futures of what a task asks for are held where it stands, and what it reads is settled.
use Rattle.std.proofs.Common.{◌≡◌, ℕ, ◌<◌, Option, Some, None, List, [], ◌∷◌, length, slice_get, refl, sym, ◌∙◌, ap, subst, inl, inr, arith}
use Rattle.std.specs.Option.{option_map, option_to_list}
use Rattle.std.proofs.lemmas.Option.{slice_get_cases}
use Rattle.task_syntax.specs.Places.{Each}
use Rattle.task_syntax.specs.Form.{IsWellFormed, IsFormedInstr}
use Rattle.task_syntax.specs.Valid.{IsValid, IsSoundInstr, Held, HeldArgument, SpawnsSoundly, RespawnsSoundly}
use Rattle.task_syntax.specs.declared.value.Value.{Value}
use Rattle.task_syntax.specs.declared.value.Value.TheVariants as value
use Rattle.task_syntax.specs.declared.instr.Argument.{Argument}
use Rattle.task_syntax.specs.declared.instr.Argument.TheVariants as argument
use Rattle.task_syntax.specs.declared.instr.Instr.{Instr}
use Rattle.task_syntax.specs.declared.instr.Instr.TheVariants.{Math, Cell, Spawn, All, Copy, Drop, Get, Again, Done}
use Rattle.task_syntax.specs.declared.instr.Line.{Line}
use Rattle.task_syntax.specs.declared.program.State.{State}
use Rattle.task_syntax.specs.declared.program.Kind.{Kind}
use Rattle.task_syntax.specs.declared.program.Program.{Program}
use Rattle.task_syntax.specs.declared.columns.Columns.{Columns}
use Rattle.task_meaning.specs.Frame.{FrameOf, code_in, state_in, state_at, operand}
use Rattle.task_meaning.specs.Arithmetic.{computed, cell_at}
use Rattle.frame_code.specs.Words.{OfKind}
use Rattle.frame_code.specs.Stops.{numbers_passed, variables_passed, trapped, stop_at, StopsAt}
use Rattle.frame_code.specs.Meant.{futures_in, IsSettledIn, AreHeld}
use Rattle.frame_code.specs.declared.act.Act.{Act}
use Rattle.frame_code.specs.declared.act.Act.TheVariants as act
use Rattle.frame_code.proofs.Eaches.{each-nil, each-cons, each-tail, each-append, each-option}

-- what is asked for names held futures alone, and reads a settled one
abbrev IsHeldAct : State → ℕ → Act → Type 0
IsHeldAct state at asked = Each (futures_in asked) (Held state at) × IsSettledIn state at asked

pub item-within : {A : Type 0} (xs : List A) (at : ℕ) → at < length xs → (x : A) × (slice_get xs at ≡ Some x)
item-within xs at h = elim (slice_get_cases xs at).1 [ inl s ↦ (s.0, s.2) | inr s ↦ absurd (omega (arith, s.0)) ]

trap-held : (state : State) (at : ℕ) (v : Value) (asked : Act) → trapped v ≡ Some asked → IsHeldAct state at asked
trap-held state at (value.Number n) asked e = cc
trap-held state at (value.Trapped t) asked e = let s : act.Trap t ≡ asked = cc in subst (IsHeldAct state at) s (each-nil (Held state at), tt)

variables-held : (state : State) (at : ℕ) (arguments : List Argument) → Each arguments (HeldArgument state at) → Each (variables_passed arguments) (Held state at)
variables-held state at [] h = each-nil (Held state at)
variables-held state at (argument.Number a ∷ more) h = variables-held state at more (each-tail (HeldArgument state at) (argument.Number a) more h)
variables-held state at (argument.Future x ∷ more) h = each-cons (Held state at) x (variables_passed more) (h 0 (argument.Future x) (cc))
    (variables-held state at more (each-tail (HeldArgument state at) (argument.Future x) more h))

stop-held : (p : Program) (c : Columns) (kind : Kind) (state : State) (instr : Instr) (q : FrameOf ℕ) (asked : Act) → IsFormedInstr p kind state q.at instr
    → IsSoundInstr p kind state q.at instr → stop_at c instr q ≡ Some asked → IsHeldAct state q.at asked
stop-held p c kind state (Math op to left right) q asked formed sound e = trap-held state q.at (computed op (operand q.numbers left) (operand q.numbers right)) asked e
stop-held p c kind state (Cell to column row) q asked formed sound e = trap-held state q.at (cell_at c column (operand q.numbers row)) asked e
stop-held p c kind state (Spawn to callee arguments waits priority retry) q asked formed sound e =
    let s : act.Spawn (record {
      to = to;
      kind = callee;
      numbers = numbers_passed q.numbers arguments;
      futures = variables_passed arguments;
      behind = waits;
      priority = priority;
      retry = retry;
    }) ≡ asked = cc in
    let k = item-within p.kinds callee formed.1 in
    let spawns : SpawnsSoundly k.0 state q.at arguments waits = sound k.0 k.1 in
    subst (IsHeldAct state q.at) s (
      each-append (Held state q.at) (variables_passed arguments) (option_to_list waits) (variables-held state q.at arguments spawns.held)
          (each-option (Held state q.at) waits spawns.behind_held),
      tt,
    )
stop-held p c kind state (All to members priority retry) q asked formed sound e =
    let s : act.All (record { to = to; members = members; priority = priority; retry = retry }) ≡ asked = cc in subst (IsHeldAct state q.at) s (sound, tt)
stop-held p c kind state (Copy to source) q asked formed sound e =
    let s : act.Copy to source ≡ asked = cc in subst (IsHeldAct state q.at) s (each-cons (Held state q.at) source [] sound (each-nil (Held state q.at)), tt)
stop-held p c kind state (Drop x) q asked formed sound e =
    let s : act.Drop x ≡ asked = cc in subst (IsHeldAct state q.at) s (each-cons (Held state q.at) x [] sound (each-nil (Held state q.at)), tt)
stop-held p c kind state (Get to x) q asked formed sound e =
    let s : act.NeedsValue x ≡ asked = cc in subst (IsHeldAct state q.at) s (each-cons (Held state q.at) x [] sound.0 (each-nil (Held state q.at)), sound.1)
stop-held p c kind state (Again target waits priority) q asked formed sound e =
    let s : act.Again (record { target = target; behind = waits; priority = priority }) ≡ asked = cc in
    let next = item-within kind.states target formed.0 in
    let respawns : RespawnsSoundly next.0 state q.at waits = sound next.0 next.1 in
    subst (IsHeldAct state q.at) s (each-option (Held state q.at) waits respawns.behind_held, tt)
stop-held p c kind state (Done value) q asked formed sound e =
    let s : act.Done (operand q.numbers value) ≡ asked = cc in subst (IsHeldAct state q.at) s (each-nil (Held state q.at), tt)
stop-held p c kind state _ q asked formed sound e = cc

-- the kind of a state
kind-of : (p : Program) (kind at : ℕ) (state : State) → state_at p kind at ≡ Some state → (k : Kind) × (slice_get p.kinds kind ≡ Some k) × (slice_get k.states at ≡ Some state)
kind-of p kind at state e = by (slice_get p.kinds kind) refl e
  where
    by : (o : Option Kind) → slice_get p.kinds kind ≡ o → state_in o at ≡ Some state → (k : Kind) × (slice_get p.kinds kind ≡ Some k) × (slice_get k.states at ≡ Some state)
    by None g f = cc
    by (Some k) g f = (k, g, f)

pub acts-held : (p : Program) (c : Columns) (q : FrameOf ℕ) (asked : Act) → IsWellFormed p → IsValid p → StopsAt p c q asked → AreHeld p asked (OfKind q)
acts-held p c q asked formed valid h state is_state =
    let k = kind-of p q.kind q.state state is_state in
    let line : slice_get state.code q.at ≡ Some h.0 = ap (λ o. slice_get (code_in o) q.at) (sym is_state) ∙ h.1 in
    stop-held p c k.0 state h.0.instr q asked ((((formed.kinds q.kind k.0 k.1).states) q.state state k.2).instrs q.at h.0 line)
    ((((valid.kinds q.kind k.0 k.1).states) q.state state k.2).instrs q.at h.0.instr (ap (option_map (λ (l : Line). l.instr)) line)) h.2
