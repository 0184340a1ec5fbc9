-- A running task reads another: what the engine does is what the run does.
use Rattle.std.proofs.Common.{◌≡◌, ℕ, ◌<◌, ◌^◌, true, Option, Some, None, List, [], slice_get, refl, sym, ◌∙◌, ap, subst, arith}
use Rattle.std.specs.List.{filter_map}
use Rattle.std.specs.Option.{option_map}
use Rattle.std.proofs.lemmas.Option.{same_Some}
use Rattle.task_syntax.specs.Valid.{Held, Settled, IsSoundInstr}
use Rattle.task_syntax.specs.declared.value.Value.{Value}
use Rattle.task_syntax.specs.declared.value.Value.TheVariants.{Number, Trapped}
use Rattle.task_syntax.specs.declared.instr.Instr.{Instr}
use Rattle.task_syntax.specs.declared.instr.Instr.TheVariants.{Get}
use Rattle.task_syntax.specs.declared.instr.Line.{Line}
use Rattle.task_syntax.specs.declared.program.Program.{Program}
use Rattle.task_syntax.specs.declared.columns.Columns.{Columns}
use Rattle.task_meaning.specs.Meant.{future_at}
use Rattle.task_meaning.specs.Frame.{FrameOf, code_at, frame_with, set_number, renamed}
use Rattle.task_meaning.specs.Acts.{Reads, act_of}
use Rattle.frame_code.specs.Words.{BodyOf, OfKind, OfMembers, body_of}
use Rattle.frame_code.specs.Frames.{IsFrame}
use Rattle.frame_code.specs.Names.{body_with, names_of}
use Rattle.frame_code.specs.Members.{member_act}
use Rattle.frame_code.specs.Moves.{BodyIsGiven}
use Rattle.frame_code.specs.Setting.{unit_of as unit_in}
use Rattle.frame_code.specs.declared.act.Act.TheVariants as act
use Rattle.record_core.specs.Numbers.{found}
use Rattle.record_core.specs.EndSeen.{RunPlan}
use Rattle.record_core.specs.declared.rows.Cause.TheVariants as cause
use Rattle.run_model.specs.State.{Body, Gave as RunGave, Run}
use Rattle.run_model.specs.Step.{with_body, does, reads, outcome_of, step}
use Rattle.run_model.proofs.SeatFacts.{seat_sound}
use Rattle.plain_state.specs.declared.record.Outcome.TheVariants.{Gave}
use Rattle.plain_state.specs.Engine.{EngineState}
use Rattle.plain_state.specs.Laws.{MayRun, KnownAt, AsksFor, Finishes, ReadIsStep}
use Rattle.plain_state.specs.Sees.{SeesBody, Runs, unit_of, outcome_seen}
use Rattle.plain_state.proofs.Units.{unit_in_use}
use Rattle.plain_state.proofs.InHand.{known_at}
use Rattle.plain_state.proofs.FewReferences.{unit_small}
use Rattle.plain_state.proofs.Running.{body_length, reached_next, step_line, stops_renamed, stop_shape, own_says}
use Rattle.plain_state.proofs.OwnLaws.{frame_says, frame_runs, frame_seat, frame_unit, frame_used, names_held, body_runs}
use Rattle.plain_state.proofs.TaskEnds.{read_traps}

-- an aggregate asks for no read
member_reads : (o : Option ℕ) (next x : ℕ) → member_act o next ≡ act.NeedsValue x → ⊥
member_reads None next x e = cc
member_reads (Some u) next x e = cc

-- what is to be shown of a read
abbrev ReadsSo : Program → Columns → RunPlan → EngineState → Run → ℕ → List ℕ → ℕ → Type 0
ReadsSo p c plan e r unit words x =
    (other : ℕ) × (v : Value) × (unit_in (body_of p words) x ≡ Some other) × (other < 2 ^ 32) × KnownAt e other
    (λ known. known.outcome ≡ Some (Gave v))
    × ((n : ℕ) (next : List ℕ) → v ≡ Number n → IsFrame p next → BodyIsGiven p (body_of p words) n (body_of p next)
    → Runs p c plan e unit next (step p c plan.units r))
    × ((trap : _) → v ≡ Trapped trap → Finishes p c plan e unit words (Gave (Trapped trap)) cause.Clear (step p c plan.units r))

module _ (p : Program) (c : Columns) (plan : RunPlan) (e : EngineState) (r : Run) (unit : ℕ) (words : List ℕ) (x : ℕ) (may : MayRun p plan)
    (runs : Runs p c plan e unit words r) (q : FrameOf ℕ) (same : runs.body ≡ OfKind q)
    (line : Line) (there : slice_get (code_at p q.kind q.state) q.at ≡ Some line) (to : ℕ) (is_read : line.instr ≡ Get to x) where
  reading : act_of c line.instr q ≡ Reads to x
  reading = ap (λ instr. act_of c instr q) is_read

  -- a number goes into the variable
  module _ (u n : ℕ) (names : future_at q.futures x ≡ Some u) (gave : found r.outcomes u ≡ Some (RunGave (Number n))) (next : List ℕ)
      (frame : IsFrame p next) where
    says_given : (after : BodyOf ℕ) → body_of p next ≡ after → BodyIsGiven p (OfKind (frame_with (unit_of r.blocks) q)) n after
        → body_of p next ≡ OfKind (frame_with (unit_of r.blocks) (set_number q to n))
    says_given (OfMembers members at) is_after given = absurd given
    says_given (OfKind last) is_after (other, here, (to', x', is_get, is_last)) =
        let same_to : to ≡ to' = same_get (sym is_read ∙ ap (λ (l : Line). l.instr) (same_Some line other (sym there ∙ here)) ∙ is_get) in
        is_after ∙ ap OfKind is_last ∙ ap (λ k. OfKind (set_number (frame_with (unit_of r.blocks) q) k n)) (sym same_to)
      where
        same_get : {to' x' : ℕ} → ◌≡◌ {A = Instr} (Get to x) (Get to' x') → to ≡ to'
        same_get h = cc

    number_given : BodyIsGiven p (body_of p words) n (body_of p next) → Runs p c plan e unit next (step p c plan.units r)
    number_given given =
        let says_q = frame_says p c plan e r unit words may runs q same in
        let says = says_given (body_of p next) refl (subst (λ b. BodyIsGiven p b n (body_of p next)) says_q.says given) in
        let runs_q = frame_runs p c plan e r unit words may runs q same in
        let steps_to : step p c plan.units r ≡ with_body r runs.t (OfKind (set_number q to n)) =
        step_line p c plan.units r runs.t runs.n q line runs_q there ∙ ap (does p plan.units r runs.t q line.instr) reading
        ∙ ap (λ o. reads (outcome_of r o) r runs.t q to) names ∙ ap (λ o. reads o r runs.t q to) gave in
        body_runs p c plan e r (step p c plan.units r) unit words next runs (OfKind (set_number q to n)) steps_to
        (reached_next p c plan r runs.reached) (record { frame = frame; says = says })
        (ap (body_length p) says ∙ sym (ap (body_length p) says_q.says)) (sym (ap names_of same))

  -- the task that is named gave a value
  reads_from : (u : ℕ) (v : Value) → future_at q.futures x ≡ Some u → found r.outcomes u ≡ Some (RunGave v) → ReadsSo p c plan e r unit words x
  reads_from u v names gave =
      let used = frame_used p c plan e r unit words may runs q same x u names in
      let (other, at) = unit_in_use p plan.units [] (Some (runs.t, words)) e r runs.sees u used in
      let st = runs.sees.tasks u used in
      let here = known_at p plan.units [] (Some (runs.t, words)) e r runs.sees u other used at in
      let small = unit_small p plan.units [] (Some (runs.t, words)) e r runs.sees u other used at in (
        other,
        v,
        frame_unit p c plan e r unit words may runs q same x ∙ ap (renamed (unit_of r.blocks)) names ∙ at,
        omega (arith, small),
        (st.known, ap (slice_get e.store.records) (sym here) ∙ st.there, st.outcome ∙ ap (option_map outcome_seen) gave),
        λ n next is_number frame given. number_given u n names (gave ∙ ap (λ w. Some (RunGave w)) is_number) next frame given,
        λ trap is_trap. read_traps p c plan e r unit words runs.reached runs.t runs.n runs.at runs.sees q
            (frame_runs p c plan e r unit words may runs q same) line to x u trap there reading names
            (gave ∙ ap (λ w. Some (RunGave w)) is_trap),
      )

  -- the variable names a task, which gave a value
  reads_so : ReadsSo p c plan e r unit words x
  reads_so =
      let seat = frame_seat p c plan e r unit words may runs q same in
      let after = (frame_runs p c plan e r unit words may runs q same).row.after in
      let sound : Held seat.state q.at x × Settled seat.state q.at x =
      subst (IsSoundInstr p seat.kind seat.state q.at) is_read (seat_sound p may.formed may.valid c r after true q seat line there) in
      let (u, names) = names_held p r after q seat x sound.0 in
      let (v, gave) = seat.settled x u (sound.1 seat.facts seat.way) names in
      reads_from u v names gave

-- a read is what the step does
pub read_is_step : ReadIsStep
read_is_step p c plan e r unit words x may runs asks = by runs.body refl (subst (λ b. AsksFor p c b (act.NeedsValue x)) was.says asks)
  where
    was : SeesBody p r.blocks words runs.body
    was = own_says p plan.units [] runs.t words e r runs.body runs.sees runs.runs.has

    by : (body : Body) → runs.body ≡ body → AsksFor p c (body_with (unit_of r.blocks) runs.body) (act.NeedsValue x)
        → ReadsSo p c plan e r unit words x
    by (OfMembers members after) same asks =
        let member : AsksFor p c (OfMembers (filter_map (unit_of r.blocks) members) after) (act.NeedsValue x) =
        subst (λ b. AsksFor p c (body_with (unit_of r.blocks) b) (act.NeedsValue x)) same asks in
        absurd (member_reads (slice_get (filter_map (unit_of r.blocks) members) after) after x member)
    by (OfKind q) same asks =
        let (line, there, stops) =
        stops_renamed (unit_of r.blocks) p c q (act.NeedsValue x)
        (subst (λ b. AsksFor p c (body_with (unit_of r.blocks) b) (act.NeedsValue x)) same asks) in
        let (to, is_read) = stop_shape c line.instr q (act.NeedsValue x) stops in
        reads_so p c plan e r unit words x may runs q same line there to is_read
