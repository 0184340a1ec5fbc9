-- The laws on the end of a running task.
use Rattle.std.proofs.Common.{◌≡◌, ℕ, zero, suc, Option, Some, None, List, [], ◌∷◌, map, slice_get, refl, sym, ◌∙◌, ap, subst}
use Rattle.std.specs.List.{filter_map}
use Rattle.std.proofs.lemmas.Option.{none-some, same_Some}
use Rattle.task_syntax.specs.declared.value.Value.{Value}
use Rattle.task_syntax.specs.declared.value.Trap.{Trap}
use Rattle.task_syntax.specs.declared.value.Value.TheVariants as value
use Rattle.task_syntax.specs.declared.instr.Instr.{Instr}
use Rattle.task_syntax.specs.declared.instr.Instr.TheVariants.{Set, Math, If, Goto, Label, Cell, Rows, Spawn, All, Copy, Drop, Get, Again, Done}
use Rattle.task_syntax.specs.declared.instr.Line.{Line}
use Rattle.task_syntax.specs.declared.program.Program.{Program}
use Rattle.task_syntax.specs.declared.columns.Columns.{Columns}
use Rattle.task_meaning.specs.Acts.{Finishes as Ends, Reads, steps_with, act_of}
use Rattle.task_meaning.specs.Acts.{Act as LineAct}
use Rattle.task_meaning.specs.Arithmetic.{computed, cell_at}
use Rattle.task_meaning.specs.Frame.{FrameOf, code_at, operand, set_number}
use Rattle.task_meaning.specs.Meant.{future_at}
use Rattle.frame_code.specs.Members.{member_act}
use Rattle.frame_code.specs.Names.{names_of, body_with}
use Rattle.frame_code.specs.Stops.{StopsAt, stop_at, trapped}
use Rattle.frame_code.specs.Words.{OfKind, OfMembers, body_of}
use Rattle.frame_code.specs.declared.act.Act.{Act}
use Rattle.frame_code.specs.declared.act.Act.TheVariants as act
use Rattle.record_core.specs.Numbers.{found}
use Rattle.record_core.specs.Journal.{MayCause}
use Rattle.record_core.specs.EndSeen.{RunPlan}
use Rattle.record_core.specs.declared.rows.Cause.{Cause}
use Rattle.record_core.specs.declared.rows.Cause.TheVariants as cause
use Rattle.run_model.specs.State.{Body, Outcome, Gave, Run}
use Rattle.run_model.specs.Step.{step, completes, does, goes_behind, gives, outcome_of, reads, priority_of}
use Rattle.run_model.specs.Move.{RunsAt}
use Rattle.run_model.proofs.NumbersInvariant.{NumbersStand}
use Rattle.plain_state.specs.declared.record.Outcome.TheVariants as seen
use Rattle.plain_state.specs.Engine.{EngineState}
use Rattle.plain_state.specs.Moves.{finished}
use Rattle.plain_state.specs.Sees.{Sees, IsReached, unit_of, outcome_seen}
use Rattle.plain_state.specs.Laws.{AsksFor, EndIsStep, Finishes}
use Rattle.plain_state.proofs.Units.{unit_from}
use Rattle.plain_state.proofs.References.{in_use_open}
use Rattle.plain_state.proofs.Running.{reached_stands, reached_next, own_says, step_body, step_line, stops_renamed}
use Rattle.plain_state.proofs.QueueRoom.{cons_parts}
use Rattle.plain_state.proofs.Finishing.{finish_sees, names_seen, renamed_names}

-- Where the engine stands for a run in which a task runs, and the next moment is that this task ended, it finishes so.
module _ (p : Program) (c : Columns) (plan : RunPlan) (e : EngineState) (r : Run) (unit : ℕ) (words : List ℕ) (t n : ℕ) (body : Body) (held : NumbersStand r) (runs : RunsAt r t n body) (at : unit_of r.blocks t ≡ Some unit)
    (sees : Sees p plan.units [] (Some (t, words)) e r) where
  -- each call may be made, and the engine stands for that moment
  pub finishes_as : (outcome : Outcome) (why : Cause) (next : Run) → MayCause r.journal why → IsReached p c plan next → next ≡ completes r t outcome why → Finishes p c plan e unit words (outcome_seen outcome) why next
  finishes_as outcome why next caused reached same =
      let task = sees.tasks t (in_use_open [] r t body runs.has) in
      let first : task.block.unit ≡ unit = same_Some task.block.unit unit (sym (unit_from r.blocks t task.block task.has_block) ∙ at) in
      let (waiters, may, seen) = finish_sees p plan.units e r unit words t n body held runs at sees outcome why caused in
      record {
        task = t;
        waiters = waiters;
        known = task.known;
        there = ap (slice_get e.store.records) (sym first) ∙ task.there;
        of_task = task.task;
        may = may;
        rests = record {
          reached = reached;
          idle = ap (λ (s : Run). s.running) same;
          sees = subst (λ s. Sees p plan.units [] None (finished unit t waiters (names_of (body_of p words)) (outcome_seen outcome) why e) s) (sym same) seen;
        };
      }

-- which acts end a task
abbrev EndShape : Option Act → LineAct ℕ → Type 0
EndShape (Some (act.Done n)) does_so = does_so ≡ Ends (value.Number n)
EndShape (Some (act.Trap trap)) does_so = does_so ≡ Ends (value.Trapped trap)
EndShape _ does_so = Unit {0}

-- a trap ends it
trap_ends : (v : Value) (frame : ℕ → FrameOf ℕ) → EndShape (trapped v) (steps_with v frame)
trap_ends (value.Number n) frame = tt
trap_ends (value.Trapped t) frame = refl

-- which act each instruction is
end_shapes : (c : Columns) (instr : Instr) (q : FrameOf ℕ) → EndShape (stop_at c instr q) (act_of c instr q)
end_shapes c (Math op to left right) q = trap_ends (computed op (operand q.numbers left) (operand q.numbers right)) (set_number q to)
end_shapes c (Cell to column row) q = trap_ends (cell_at c column (operand q.numbers row)) (set_number q to)
end_shapes c (Done a) q = refl
end_shapes c (Set to value) q = tt
end_shapes c (If relation left right target) q = tt
end_shapes c (Goto target) q = tt
end_shapes c (Label name) q = tt
end_shapes c (Rows to column) q = tt
end_shapes c (Spawn to kind arguments waits priority retry) q = tt
end_shapes c (All to members priority retry) q = tt
end_shapes c (Copy to source) q = tt
end_shapes c (Drop future) q = tt
end_shapes c (Get to future) q = tt
end_shapes c (Again target waits priority) q = tt

-- which acts of an aggregate end it
abbrev MemberEnds : Option ℕ → Act → Type 0
MemberEnds o (act.Done n) = (o ≡ None) × (n ≡ 0)
MemberEnds o (act.Trap trap) = ⊥
MemberEnds o _ = Unit {0}

-- an aggregate ends after its last member
member_ends : (o : Option ℕ) (next : ℕ) → MemberEnds o (member_act o next)
member_ends None next = (refl, refl)
member_ends (Some member) next = tt

-- nothing stands at a place of names where no name stands
no_member : (f : ℕ → Option ℕ) (ms us : List ℕ) (k : ℕ) → map f ms ≡ map (λ u. Some u) us → slice_get us k ≡ None → slice_get ms k ≡ None
no_member f [] us k e none = refl
no_member f (m ∷ ms) [] k e none = absurd (differ e)
  where
    differ : ◌≡◌ {A = List (Option ℕ)} (f m ∷ map f ms) [] → ⊥
    differ h = cc
no_member f (m ∷ ms) (u ∷ us) zero e none = absurd (none-some u (sym none))
no_member f (m ∷ ms) (u ∷ us) (suc k) e none = no_member f ms us k (cons_parts (f m) (Some u) (map f ms) (map (λ w. Some w) us) e).1 none

module _ (p : Program) (c : Columns) (plan : RunPlan) (e : EngineState) (r : Run) (unit : ℕ) (words : List ℕ) (reached : IsReached p c plan r) (t n : ℕ) (at : unit_of r.blocks t ≡ Some unit)
    (sees : Sees p plan.units [] (Some (t, words)) e r) where
  -- what the run keeps of its numbers
  held : NumbersStand r
  held = (reached_stands p c plan r reached).numbers

  -- it ends with this value
  pub gives_value : (body : Body) → RunsAt r t n body → (v : Value) → step p c plan.units r ≡ gives r t v → Finishes p c plan e unit words (seen.Gave v) cause.Clear (step p c plan.units r)
  gives_value body runs v same = finishes_as p c plan e r unit words t n body held runs at sees (Gave v) cause.Clear (step p c plan.units r) tt (reached_next p c plan r reached) same

  -- by a line that ends it
  by_line : (q : FrameOf ℕ) → RunsAt r t n (OfKind q) → (asked : Act) (v : Value) → StopsAt p c q asked → ((instr : Instr) → stop_at c instr q ≡ Some asked → act_of c instr q ≡ Ends v)
      → Finishes p c plan e unit words (seen.Gave v) cause.Clear (step p c plan.units r)
  by_line q runs asked v (line, there, stops) ends =
      gives_value (OfKind q) runs v (step_line p c plan.units r t n q line runs there ∙ ap (does p plan.units r t q line.instr) (ends line.instr stops))

  -- what the words ask for, the body asks for
  asked_here : (body : Body) (asked : Act) → RunsAt r t n body → AsksFor p c (body_of p words) asked → AsksFor p c (body_with (unit_of r.blocks) body) asked
  asked_here body asked runs asks = subst (λ b. AsksFor p c b asked) (own_says p plan.units [] t words e r body sees runs.has).says asks

  -- with a number
  pub done_ends : (body : Body) → RunsAt r t n body → (k : ℕ) → AsksFor p c (body_of p words) (act.Done k) → Finishes p c plan e unit words (seen.Gave (value.Number k)) cause.Clear (step p c plan.units r)
  done_ends (OfKind q) runs k asks =
      by_line q runs (act.Done k) (value.Number k) (stops_renamed (unit_of r.blocks) p c q (act.Done k) (asked_here (OfKind q) (act.Done k) runs asks))
      (λ instr stops. subst (λ o. EndShape o (act_of c instr q)) stops (end_shapes c instr q))
  done_ends (OfMembers members next) runs k asks =
      let here = asked_here (OfMembers members next) (act.Done k) runs asks in
      let ends : MemberEnds (slice_get (filter_map (unit_of r.blocks) members) next) (act.Done k) = subst (MemberEnds (slice_get (filter_map (unit_of r.blocks) members) next)) here (member_ends (slice_get (filter_map (unit_of r.blocks) members) next) next) in
      let names = names_seen p plan.units e r unit words t n (OfMembers members next) held runs at sees in
      let is_list : filter_map (unit_of r.blocks) members ≡ names_of (body_of p words) = renamed_names (unit_of r.blocks) (OfMembers members next) (names_of (body_of p words)) names in
      let none : slice_get members next ≡ None = no_member (unit_of r.blocks) members (names_of (body_of p words)) next names (ap (λ xs. slice_get xs next) (sym is_list) ∙ ends.0) in
      let same : step p c plan.units r ≡ gives r t (value.Number 0) = step_body p c plan.units r t n (OfMembers members next) runs ∙ ap (goes_behind r t (priority_of r.priorities n) members next) none in
      subst (λ x. Finishes p c plan e unit words (seen.Gave (value.Number x)) cause.Clear (step p c plan.units r)) (sym ends.1) (gives_value (OfMembers members next) runs (value.Number 0) same)

  -- by a trap of its own line
  pub trap_stops : (body : Body) → RunsAt r t n body → (trap : Trap) → AsksFor p c (body_of p words) (act.Trap trap) → Finishes p c plan e unit words (seen.Gave (value.Trapped trap)) cause.Clear (step p c plan.units r)
  trap_stops (OfKind q) runs trap asks =
      by_line q runs (act.Trap trap) (value.Trapped trap) (stops_renamed (unit_of r.blocks) p c q (act.Trap trap) (asked_here (OfKind q) (act.Trap trap) runs asks))
      (λ instr stops. subst (λ o. EndShape o (act_of c instr q)) stops (end_shapes c instr q))
  trap_stops (OfMembers members next) runs trap asks =
      let here = asked_here (OfMembers members next) (act.Trap trap) runs asks in
      absurd (subst (MemberEnds (slice_get (filter_map (unit_of r.blocks) members) next)) here (member_ends (slice_get (filter_map (unit_of r.blocks) members) next) next))

  -- by the trap of a task that it reads
  pub read_traps : (q : FrameOf ℕ) → RunsAt r t n (OfKind q) → (line : Line) (to x u : ℕ) (trap : Trap) → slice_get (code_at p q.kind q.state) q.at ≡ Some line → act_of c line.instr q ≡ Reads to x
      → future_at q.futures x ≡ Some u → found r.outcomes u ≡ Some (Gave (value.Trapped trap)) → Finishes p c plan e unit words (seen.Gave (value.Trapped trap)) cause.Clear (step p c plan.units r)
  read_traps q runs line to x u trap there reading names gave =
      gives_value (OfKind q) runs (value.Trapped trap)
      (step_line p c plan.units r t n q line runs there ∙ ap (does p plan.units r t q line.instr) reading ∙ ap (λ o. reads (outcome_of r o) r t q to) names ∙ ap (λ o. reads o r t q to) gave)

-- the law on the end of a task
pub ends_step : EndIsStep
ends_step p c plan e r unit words run runs = (
  λ k asks. done_ends p c plan e r unit words runs.reached runs.t runs.n runs.at runs.sees runs.body runs.runs k asks,
  λ trap asks. trap_stops p c plan e r unit words runs.reached runs.t runs.n runs.at runs.sees runs.body runs.runs trap asks,
)
