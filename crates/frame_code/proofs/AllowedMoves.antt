-- What a task may do once it got what it asked for.
use Rattle.std.proofs.Common.{◌≡◌, ℕ, Option, Some, None, List, slice_get, refl, sym, subst}
use Rattle.std.proofs.lemmas.Option.{slice_get_within}
use Rattle.task_syntax.specs.declared.value.Value.{Value}
use Rattle.task_syntax.specs.declared.value.Value.TheVariants as value
use Rattle.task_syntax.specs.declared.instr.Instr.{Instr}
use Rattle.task_syntax.specs.declared.instr.Instr.TheVariants.{Math, Cell, Spawn, All, Copy, Drop, Get, Again, Done}
use Rattle.task_syntax.specs.declared.instr.Line.{Line}
use Rattle.task_syntax.specs.declared.program.Program.{Program}
use Rattle.task_syntax.specs.declared.columns.Columns.{Columns}
use Rattle.task_meaning.specs.Frame.{FrameOf, code_at, operand}
use Rattle.task_meaning.specs.Arithmetic.{computed, cell_at}
use Rattle.frame_code.specs.Words.{OfKind, OfMembers}
use Rattle.frame_code.specs.Members.{member_act}
use Rattle.frame_code.specs.Stops.{numbers_passed, variables_passed, trapped, stop_at, StopsAt}
use Rattle.frame_code.specs.Moves.{IsRead, IsPassed, IsRespawn, BodyAllows}
use Rattle.frame_code.specs.declared.act.Act.{Act}
use Rattle.frame_code.specs.declared.act.Act.TheVariants as act

module _ (p : Program) (c : Columns) (q : FrameOf ℕ) where
  trap-allows : (v : Value) (asked : Act) → trapped v ≡ Some asked → BodyAllows p asked (OfKind q)
  trap-allows (value.Number n) asked e = cc
  trap-allows (value.Trapped t) asked e = let s : act.Trap t ≡ asked = cc in subst (λ a. BodyAllows p a (OfKind q)) s tt

  allows : (line : Line) (asked : Act) → slice_get (code_at p q.kind q.state) q.at ≡ Some line → (instr : Instr) → line.instr ≡ instr → stop_at c instr q ≡ Some asked
      → BodyAllows p asked (OfKind q)
  allows line asked l (Math op to left right) i e = trap-allows (computed op (operand q.numbers left) (operand q.numbers right)) asked e
  allows line asked l (Cell to column row) i e = trap-allows (cell_at c column (operand q.numbers row)) asked e
  allows line asked l (Spawn to kind arguments waits priority retry) i e =
      let s : act.Spawn (record {
        to = to;
        kind = kind;
        numbers = numbers_passed q.numbers arguments;
        futures = variables_passed arguments;
        behind = waits;
        priority = priority;
        retry = retry;
      }) ≡ asked = cc in subst (λ a. BodyAllows p a (OfKind q)) s (line, l, subst IsPassed (sym i) tt)
  allows line asked l (All to members priority retry) i e =
      let s : act.All (record { to = to; members = members; priority = priority; retry = retry }) ≡ asked = cc in
      subst (λ a. BodyAllows p a (OfKind q)) s (line, l, subst IsPassed (sym i) tt)
  allows line asked l (Copy to source) i e = let s : act.Copy to source ≡ asked = cc in subst (λ a. BodyAllows p a (OfKind q)) s (line, l, subst IsPassed (sym i) tt)
  allows line asked l (Drop x) i e = let s : act.Drop x ≡ asked = cc in subst (λ a. BodyAllows p a (OfKind q)) s (line, l, subst IsPassed (sym i) tt)
  allows line asked l (Get to x) i e = let s : act.NeedsValue x ≡ asked = cc in subst (λ a. BodyAllows p a (OfKind q)) s (line, l, subst IsRead (sym i) tt)
  allows line asked l (Again target waits priority) i e =
      let s : act.Again (record { target = target; behind = waits; priority = priority }) ≡ asked = cc in
      subst (λ a. BodyAllows p a (OfKind q)) s (line, l, subst (IsRespawn target) (sym i) refl)
  allows line asked l (Done value) i e = let s : act.Done (operand q.numbers value) ≡ asked = cc in subst (λ a. BodyAllows p a (OfKind q)) s tt
  allows line asked l _ i e = cc

  pub stop-allows : (asked : Act) → StopsAt p c q asked → BodyAllows p asked (OfKind q)
  stop-allows asked h = allows h.0 asked h.1 h.0.instr refl h.2

pub member-allows : (p : Program) (members : List ℕ) (next : ℕ) (asked : Act) → member_act (slice_get members next) next ≡ asked → BodyAllows p asked (OfMembers members next)
member-allows p members next asked e = by (slice_get members next) refl e
  where
    by : (o : Option ℕ) → slice_get members next ≡ o → member_act o next ≡ asked → BodyAllows p asked (OfMembers members next)
    by None g f = subst (λ a. BodyAllows p a (OfMembers members next)) f tt
    by (Some member) g f = subst (λ a. BodyAllows p a (OfMembers members next)) f (refl, slice_get_within members next member g)
