-- What a frame asks for names variables of its kind, of the sorts that are wanted there.
use Rattle.std.proofs.Common.{◌≡◌, ℕ, ◌<◌, ◌≤◌, Option, Some, None, List, length, slice_get, refl, ◌∙◌, ap, subst}
use Rattle.std.specs.Prelude.{IfSome}
use Rattle.std.specs.Option.{option_map}
use Rattle.std.proofs.lemmas.Option.{slice_get_within}
use Rattle.task_syntax.specs.Places.{Each, IsFutureAt}
use Rattle.task_syntax.specs.Form.{IsWellFormed, IsFormedInstr}
use Rattle.task_syntax.specs.declared.value.Value.{Value}
use Rattle.task_syntax.specs.declared.value.Value.TheVariants as value
use Rattle.task_syntax.specs.declared.program.Sort.TheVariants.{Future}
use Rattle.task_syntax.specs.declared.program.Variable.{Variable}
use Rattle.task_syntax.specs.declared.instr.Instr.{Instr}
use Rattle.task_syntax.specs.declared.instr.Instr.TheVariants.{Math, Cell, Spawn, All, Copy, Drop, Get, Again, Done}
use Rattle.task_syntax.specs.declared.program.State.{State}
use Rattle.task_syntax.specs.declared.program.Kind.{Kind}
use Rattle.task_syntax.specs.declared.program.Program.{Program}
use Rattle.task_syntax.specs.declared.columns.Columns.{Columns}
use Rattle.task_meaning.specs.Frame.{FrameOf, operand}
use Rattle.task_meaning.specs.Arithmetic.{computed, cell_at}
use Rattle.frame_code.specs.Words.{BodyOf, OfKind, OfMembers, variable_list}
use Rattle.frame_code.specs.Setting.{BodyHasSort}
use Rattle.frame_code.specs.Stops.{numbers_passed, variables_passed, trapped, stop_at}
use Rattle.frame_code.specs.Members.{member_act}
use Rattle.frame_code.specs.declared.act.Act.{Act}
use Rattle.frame_code.specs.declared.act.Act.TheVariants as act
use Rattle.run_model.proofs.CodeFacts.{line_of_code}
use Rattle.plain_state.specs.Laws.{AsksFor}
use Rattle.plain_engine.specs.Going.{BodyMayBeBehind}

-- what is asked for fits a kind
abbrev FitsIn : Program → Kind → Act → Type 0
FitsIn p k (act.Spawn request) = IsFutureAt k request.to × (request.kind < length p.kinds) × IfSome request.behind (IsFutureAt k)
FitsIn p k (act.All request) = IsFutureAt k request.to × (0 < length request.members) × (length request.members ≤ 8) × Each request.members
    (IsFutureAt k)
FitsIn p k (act.Copy to source) = IsFutureAt k to × IsFutureAt k source
FitsIn p k (act.Drop x) = IsFutureAt k x
FitsIn p k (act.NeedsValue x) = IsFutureAt k x
FitsIn p k (act.Again request) = IfSome request.behind (IsFutureAt k)
FitsIn p k _ = Unit {0}

trap_fits : (p : Program) (k : Kind) (v : Value) (asked : Act) → trapped v ≡ Some asked → FitsIn p k asked
trap_fits p k (value.Number n) asked e = cc
trap_fits p k (value.Trapped t) asked e = let s : act.Trap t ≡ asked = cc in subst (FitsIn p k) s tt

stop_fits : (p : Program) (c : Columns) (k : Kind) (state : State) (at : ℕ) (instr : Instr) (q : FrameOf ℕ) (asked : Act)
    → IsFormedInstr p k state at instr
    → stop_at c instr q ≡ Some asked → FitsIn p k asked
stop_fits p c k state at (Math op to left right) q asked formed e = trap_fits p k (computed op (operand q.numbers left)
    (operand q.numbers right)) asked e
stop_fits p c k state at (Cell to column row) q asked formed e = trap_fits p k (cell_at c column (operand q.numbers row)) asked e
stop_fits p c k state at (Spawn to callee arguments waits priority retry) q asked formed e =
    let s : act.Spawn (record {
      to = to;
      kind = callee;
      numbers = numbers_passed q.numbers arguments;
      futures = variables_passed arguments;
      behind = waits;
      priority = priority;
      retry = retry;
    }) ≡ asked = cc in subst (FitsIn p k) s (formed.0, formed.1, formed.4)
stop_fits p c k state at (All to members priority retry) q asked formed e =
    let s : act.All (record { to = to; members = members; priority = priority; retry = retry }) ≡ asked = cc in subst (FitsIn p k) s formed
stop_fits p c k state at (Copy to source) q asked formed e = let s : act.Copy to source ≡ asked = cc in subst (FitsIn p k) s formed
stop_fits p c k state at (Drop x) q asked formed e = let s : act.Drop x ≡ asked = cc in subst (FitsIn p k) s formed
stop_fits p c k state at (Get to x) q asked formed e = let s : act.NeedsValue x ≡ asked = cc in subst (FitsIn p k) s formed.1
stop_fits p c k state at (Again target waits priority) q asked formed e =
    let s : act.Again (record { target = target; behind = waits; priority = priority }) ≡ asked = cc in subst (FitsIn p k) s formed.1
stop_fits p c k state at (Done value) q asked formed e = let s : act.Done (operand q.numbers value) ≡ asked = cc in subst (FitsIn p k) s tt
stop_fits p c k state at _ q asked formed e = cc

-- what is asked for fits a body
abbrev pub Fits : Program → BodyOf ℕ → Act → Type 0
Fits p body (act.Spawn request) = BodyHasSort p Future request.to body × (request.kind < length p.kinds) × IfSome request.behind
    (λ x. BodyHasSort p Future x body)
Fits p body (act.All request) =
    BodyHasSort p Future request.to body × (0 < length request.members) × (length request.members ≤ 8) × Each request.members
    (λ x. BodyHasSort p Future x body)
Fits p body (act.Copy to source) = BodyHasSort p Future to body × BodyHasSort p Future source body
Fits p body (act.Drop x) = BodyHasSort p Future x body
Fits p body (act.NeedsValue x) = BodyHasSort p Future x body
Fits p body (act.Again request) = BodyMayBeBehind p body request.behind
Fits p body _ = Unit {0}

if_some : {A : Type 0} (P Q : A → Type 0) (o : Option A) → ((x : A) → P x → Q x) → IfSome o P → IfSome o Q
if_some P Q None f h = tt
if_some P Q (Some x) f h = f x h

sort_there : (p : Program) (q : FrameOf ℕ) (k : Kind) → slice_get p.kinds q.kind ≡ Some k → (x : ℕ) → IsFutureAt k x → BodyHasSort p Future x
    (OfKind q)
sort_there p q k is_kind x h = ap (λ o. option_map (λ (v : Variable). v.sort) (slice_get (variable_list o) x)) is_kind ∙ h

kind_fits : (p : Program) (q : FrameOf ℕ) (k : Kind) (asked : Act) → slice_get p.kinds q.kind ≡ Some k → FitsIn p k asked → Fits p (OfKind q) asked
kind_fits p q k (act.Spawn request) is_kind h = (
  sort_there p q k is_kind request.to h.0,
  h.1,
  if_some (IsFutureAt k) (λ x. BodyHasSort p Future x (OfKind q)) request.behind (sort_there p q k is_kind) h.2,
)
kind_fits p q k (act.All request) is_kind h = (
  sort_there p q k is_kind request.to h.0,
  h.1,
  h.2,
  λ at x there. sort_there p q k is_kind x
      (h.3 at x there),
)
kind_fits p q k (act.Copy to source) is_kind h = (sort_there p q k is_kind to h.0, sort_there p q k is_kind source h.1)
kind_fits p q k (act.Drop x) is_kind h = sort_there p q k is_kind x h
kind_fits p q k (act.NeedsValue x) is_kind h = sort_there p q k is_kind x h
kind_fits p q k (act.Again request) is_kind h =
    if_some (IsFutureAt k) (λ x. BodyHasSort p Future x (OfKind q)) request.behind (sort_there p q k is_kind) h
kind_fits p q k (act.Done n) is_kind h = tt
kind_fits p q k (act.Trap t) is_kind h = tt

member_fits : (p : Program) (members : List ℕ) (next : ℕ) (o : Option ℕ) → slice_get members next ≡ o → Fits p (OfMembers members next)
    (member_act o next)
member_fits p members next None there = tt
member_fits p members next (Some member) there = slice_get_within members next member there

-- what a body asks for fits it
pub asks_fit : (p : Program) (c : Columns) (body : BodyOf ℕ) (asked : Act) → IsWellFormed p → AsksFor p c body asked → Fits p body asked
asks_fit p c (OfKind q) asked formed (line, there, stops) =
    let l = line_of_code p q.kind q.state q.at line there in
    kind_fits p q l.of_kind asked l.is_kind
    (stop_fits p c l.of_kind l.of_state q.at line.instr q asked
    ((((formed.kinds q.kind l.of_kind l.is_kind).states) q.state l.of_state l.is_state).instrs q.at line l.is_line) stops)
asks_fit p c (OfMembers members next) asked formed h = subst (Fits p (OfMembers members next)) h (member_fits p members next
    (slice_get members next) refl)
