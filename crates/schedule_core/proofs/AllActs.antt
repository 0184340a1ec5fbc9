-- What a frame names that asks for an aggregate.
use Rattle.std.proofs.Common.{◌≡◌, ◌∙◌, ℕ, suc, ◌≤◌, Option, Some, None, List, [], ◌∷◌, map, length, refl, ap, subst}
use Rattle.std.specs.Prelude.{slice_get}
use Rattle.std.specs.Option.{option_map}
use Rattle.std.proofs.lemmas.Option.{none-some}
use Rattle.record_core.specs.Counting.{At}
use Rattle.task_syntax.specs.Form.{IsWellFormed, IsFormedInstr}
use Rattle.task_syntax.specs.Places.{IsFutureAt}
use Rattle.task_syntax.specs.Valid.{IsValid}
use Rattle.task_syntax.specs.declared.value.Value.{Value}
use Rattle.task_syntax.specs.declared.value.Value.TheVariants as value
use Rattle.task_syntax.specs.declared.instr.Instr.{Instr}
use Rattle.task_syntax.specs.declared.instr.Instr.TheVariants.{Math, Cell, Spawn, All, Copy, Drop, Get, Again, Done}
use Rattle.task_syntax.specs.declared.program.Kind.{Kind}
use Rattle.task_syntax.specs.declared.program.Program.{Program}
use Rattle.task_syntax.specs.declared.program.Sort.TheVariants.{Future}
use Rattle.task_syntax.specs.declared.program.State.{State}
use Rattle.task_syntax.specs.declared.program.Variable.{Variable}
use Rattle.task_syntax.specs.declared.columns.Columns.{Columns}
use Rattle.task_meaning.specs.Frame.{FrameOf, operand}
use Rattle.task_meaning.specs.Arithmetic.{computed, cell_at}
use Rattle.frame_code.specs.Names.{present}
use Rattle.frame_code.specs.Setting.{BodyHasSort, unit_of}
use Rattle.frame_code.specs.Stops.{numbers_passed, variables_passed, trapped, stop_at}
use Rattle.frame_code.specs.Words.{BodyOf, OfKind, OfMembers, variable_list}
use Rattle.frame_code.specs.declared.act.Act.{Act}
use Rattle.frame_code.specs.declared.act.Act.TheVariants as act
use Rattle.frame_code.specs.declared.act.AllRequest.{AllRequest}
use Rattle.frame_code.proofs.MovedFrames.{IsLineOf, line-of}
use Rattle.table_core.specs.Lists.{Each}
use Rattle.schedule_rule.specs.Frames.{HoldsNames}
use Rattle.schedule_rule.proofs.HeldNameFacts.{acts-name}
use Rattle.schedule_core.specs.Spawning.{AsksFor}

-- an aggregate that is asked for has 1 to 8 members, and all that it names are futures of the kind
abbrev IsFormedAll : Kind → Act → Type 0
IsFormedAll kind (act.All request) = IsFutureAt kind request.to × (1 ≤ length request.members) × (length request.members ≤ 8) × Each (IsFutureAt kind) request.members
IsFormedAll kind _ = Unit {0}

trap-formed : (kind : Kind) (v : Value) (asked : Act) → trapped v ≡ Some asked → IsFormedAll kind asked
trap-formed kind (value.Number n) asked e = cc
trap-formed kind (value.Trapped t) asked e = let s : act.Trap t ≡ asked = cc in subst (IsFormedAll kind) s tt

-- it is so where a well-formed instruction asks for it
all-formed : (p : Program) (c : Columns) (kind : Kind) (state : State) (instr : Instr) (q : FrameOf ℕ) (asked : Act) → IsFormedInstr p kind state q.at instr → stop_at c instr q ≡ Some asked → IsFormedAll kind asked
all-formed p c kind state (Math op to left right) q asked formed e = trap-formed kind (computed op (operand q.numbers left) (operand q.numbers right)) asked e
all-formed p c kind state (Cell to column row) q asked formed e = trap-formed kind (cell_at c column (operand q.numbers row)) asked e
all-formed p c kind state (Spawn to callee arguments waits priority retry) q asked formed e =
    let s : act.Spawn (record {
      to = to;
      kind = callee;
      numbers = numbers_passed q.numbers arguments;
      futures = variables_passed arguments;
      behind = waits;
      priority = priority;
      retry = retry;
    }) ≡ asked = cc in subst (IsFormedAll kind) s tt
all-formed p c kind state (All to members priority retry) q asked formed e =
    let s : act.All (record { to = to; members = members; priority = priority; retry = retry }) ≡ asked = cc in subst (IsFormedAll kind) s formed
all-formed p c kind state (Copy to source) q asked formed e = let s : act.Copy to source ≡ asked = cc in subst (IsFormedAll kind) s tt
all-formed p c kind state (Drop x) q asked formed e = let s : act.Drop x ≡ asked = cc in subst (IsFormedAll kind) s tt
all-formed p c kind state (Get to x) q asked formed e = let s : act.NeedsValue x ≡ asked = cc in subst (IsFormedAll kind) s tt
all-formed p c kind state (Again target waits priority) q asked formed e =
    let s : act.Again (record { target = target; behind = waits; priority = priority }) ≡ asked = cc in subst (IsFormedAll kind) s tt
all-formed p c kind state (Done a) q asked formed e = let s : act.Done (operand q.numbers a) ≡ asked = cc in subst (IsFormedAll kind) s tt
all-formed p c kind state _ q asked formed e = cc

-- so it is for a frame that asks for one
pub record AsksFormed (p : Program) (request : AllRequest) (b : BodyOf ℕ) : Type 0 where
  pub variable : BodyHasSort p Future request.to b
  pub some : 1 ≤ length request.members
  pub few : length request.members ≤ 8
  pub members : (k y : ℕ) → slice_get request.members k ≡ Some y → BodyHasSort p Future y b

pub asks-formed : (p : Program) (c : Columns) (request : AllRequest) (b : BodyOf ℕ) → IsWellFormed p → AsksFor p c (act.All request) b → AsksFormed p request b
asks-formed p c request (OfMembers units next) formed asks = absurd asks
asks-formed p c request (OfKind q) formed asks = record { variable = sort request.to its.0; some = its.1; few = its.2; members = λ k y at. sort y (its.3 k y at) }
  where
    line : IsLineOf p q.kind q.state q.at asks.0
    line = line-of p q.kind q.state q.at asks.0 asks.1

    its : IsFormedAll line.of_kind (act.All request)
    its = all-formed p c line.of_kind line.of_state (asks.0).instr q (act.All request) ((((formed.kinds q.kind line.of_kind line.is_kind).states) q.state line.of_state line.is_state).instrs q.at asks.0 line.is_line) asks.2

    sort : (y : ℕ) → IsFutureAt line.of_kind y → BodyHasSort p Future y (OfKind q)
    sort y is = ap (λ (o : Option Kind). option_map (λ (v : Variable). v.sort) (slice_get (variable_list o) y)) line.is_kind ∙ is

-- in a valid program each member names a unit where the frame names what it holds
pub members-named : (p : Program) (c : Columns) (request : AllRequest) (b : BodyOf ℕ) → IsWellFormed p → IsValid p → AsksFor p c (act.All request) b → HoldsNames p b
    → (k y : ℕ) → At request.members k y → (u : ℕ) × (unit_of b y ≡ Some u)
members-named p c request (OfMembers units next) formed valid asks names k y at = absurd asks
members-named p c request (OfKind q) formed valid asks names k y at = acts-name p c q (act.All request) formed valid asks names k y at

-- where each option has something, they are what they have
pub all-present : (os : List (Option ℕ)) → ((k : ℕ) (o : Option ℕ) → At os k o → (u : ℕ) × (o ≡ Some u)) → map Some (present os) ≡ os
all-present [] each = refl
all-present (None ∷ os) each = let t = each 0 None refl in absurd (none-some t.0 t.1)
all-present (Some u ∷ os) each = ap (λ (l : List (Option ℕ)). Some u ∷ l) (all-present os (λ k o at. each (suc k) o at))
