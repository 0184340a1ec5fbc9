-- A running task goes on by itself, copies a future, and drops one: what the engine does is what the run does.
use Rattle.std.proofs.Common.{◌≡◌, ℕ, zero, suc, ◌+◌, ◌<◌, ◌^◌, Option, Some, None, List, [], length, slice_get, refl, sym, ◌∙◌, ap, subst, arith}
use Rattle.std.specs.Prelude.{true}
use Rattle.std.specs.List.{filter_map}
use Rattle.task_syntax.specs.Facts.{has}
use Rattle.task_syntax.specs.Form.{IsFormedInstr}
use Rattle.task_syntax.specs.Valid.{Held, IsSoundInstr}
use Rattle.task_syntax.specs.declared.instr.Instr.TheVariants.{Copy, Drop}
use Rattle.task_syntax.specs.declared.instr.Line.{Line}
use Rattle.task_syntax.specs.declared.program.Program.{Program}
use Rattle.task_syntax.specs.declared.columns.Columns.{Columns}
use Rattle.task_meaning.specs.Meant.{future_at}
use Rattle.task_meaning.specs.Frame.{FrameOf, code_at, variables_of, frame_with, set_future, renamed}
use Rattle.task_meaning.specs.Acts.{Act as Does, Steps, Calls, Gathers, Reads, Respawns, Finishes, act_of, act_with}
use Rattle.task_meaning.proofs.Renaming.{future_at-renamed, set_future-renamed, act-renamed}
use Rattle.frame_code.specs.Words.{BodyOf, OfKind, OfMembers, body_of}
use Rattle.frame_code.specs.Frames.{IsFrame}
use Rattle.frame_code.specs.Names.{names_of, present, body_with}
use Rattle.frame_code.specs.Stops.{stop_at, GoesTo, BodyAdvances}
use Rattle.frame_code.specs.Members.{member_act}
use Rattle.frame_code.specs.Moves.{passed_on}
use Rattle.frame_code.specs.Setting.{with_future, unit_of as unit_in}
use Rattle.frame_code.specs.declared.act.Act.TheVariants as act
use Rattle.frame_code.proofs.Formed.{passes-moves}
use Rattle.record_core.specs.Numbers.{put_number, found}
use Rattle.record_core.specs.EndSeen.{RunPlan}
use Rattle.run_model.specs.State.{Body, Run}
use Rattle.run_model.specs.Step.{with_body, does, step, steps}
use Rattle.run_model.specs.Move.{RunsAt}
use Rattle.run_model.proofs.ByNumber.{has_some}
use Rattle.run_model.proofs.LineFacts.{future_within}
use Rattle.run_model.proofs.SeatFacts.{seat_formed, seat_sound}
use Rattle.run_model.proofs.FramesInvariant.{IsSeated}
use Rattle.plain_state.specs.Store.{held, MayHold}
use Rattle.plain_state.specs.Engine.{EngineState, with_store}
use Rattle.plain_state.specs.Moves.{let_go_if, MayLetGoIf}
use Rattle.plain_state.specs.Laws.{MayRun, RunsOn, AsksFor, RunningFrames, AdvanceIsSteps, CopyIsStep, DropIsStep}
use Rattle.plain_state.specs.Sees.{Sees, SeesBody, InUse, IsReached, Runs, times, unit_of}
use Rattle.plain_state.proofs.ChangedRecords.{set_itself}
use Rattle.plain_state.proofs.Units.{unit_in_use}
use Rattle.plain_state.proofs.References.{in_use_named, open_there}
use Rattle.plain_state.proofs.InHand.{sees_held, sees_body}
use Rattle.plain_state.proofs.HandLists.{may_hold_used}
use Rattle.plain_state.proofs.SetFuture.{future_named, may_let_go_old, sees_set}
use Rattle.plain_state.proofs.FewReferences.{few_references, unit_small}
use Rattle.plain_state.proofs.Running.{body_length, frame_size, steps_next, reached_next, step_line, body_twice, runs_with, stop_renamed, stops_renamed, stop_shape, own_says, runs_stands, runs_again}

-- the words of its frame are a frame
pub running_frames : RunningFrames
running_frames p c plan e r unit words may runs = (own_says p plan.units [] runs.t words e r runs.body runs.sees runs.runs.has).frame

-- going on, line by line

-- an act under other names that steps is a step
renamed_step : (name : ℕ → Option ℕ) (a : Does ℕ) (next' : FrameOf ℕ) → act_with name a ≡ Steps next'
    → (next : FrameOf ℕ) × (a ≡ Steps next) × (frame_with name next ≡ next')
renamed_step name (Steps next) next' e = (next, refl, cc)
renamed_step name (Calls to call waits) next' e = absurd (differ e)
  where
    differ : act_with name (Calls to call waits) ≡ Steps next' → ⊥
    differ h = cc
renamed_step name (Gathers to members) next' e = absurd (differ e)
  where
    differ : act_with name (Gathers to members) ≡ Steps next' → ⊥
    differ h = cc
renamed_step name (Reads to x) next' e = absurd (differ e)
  where
    differ : act_with name (Reads to x) ≡ Steps next' → ⊥
    differ h = cc
renamed_step name (Respawns target waits) next' e = absurd (differ e)
  where
    differ : act_with name (Respawns target waits) ≡ Steps next' → ⊥
    differ h = cc
renamed_step name (Finishes v) next' e = absurd (differ e)
  where
    differ : act_with name (Finishes v) ≡ Steps next' → ⊥
    differ h = cc

-- the run comes to the frame of which the engine sees the one under units
record Advanced (p : Program) (c : Columns) (units t n : ℕ) (name : ℕ → Option ℕ) (q last' : FrameOf ℕ) : Type 0 where
  last : FrameOf ℕ
  is_last : frame_with name last ≡ last'
  kind : last.kind ≡ q.kind
  futures : last.futures ≡ q.futures
  taken : ℕ
  comes : (r : Run) → RunsAt r t n (OfKind q) → steps p c units taken r ≡ with_body r t (OfKind last)

-- a run whose task stands at its body
body_itself : (r : Run) (t : ℕ) (body : Body) → found r.bodies t ≡ Some body → r ≡ with_body r t body
body_itself r t body has = ap (λ bs. record r { bodies = bs }) (sym (same r.bodies t has))
  where
    same : (bodies : List (Option Body)) (t : ℕ) → found bodies t ≡ Some body → put_number bodies t (Some body) ≡ bodies
    same bodies zero e = refl
    same bodies (suc t) e = set_itself bodies t (Some body) (open_there bodies (suc t) body e)

module _ (p : Program) (c : Columns) (units t n : ℕ) (name : ℕ → Option ℕ) (q : FrameOf ℕ) where
  advanced : (last' : FrameOf ℕ) → GoesTo p c (frame_with name q) last' → Advanced p c units t n name q last'
  advanced _ GoesTo.stays =
      record { last = q; is_last = refl; kind = refl; futures = refl; taken = 0; comes = λ r runs. body_itself r t (OfKind q) runs.has }
  advanced _ (GoesTo.passes {at = at'} {next = next'} goes (line, there, (stays, acts))) =
      let before = advanced at' goes in
      let at_line : slice_get (code_at p before.last.kind before.last.state) before.last.at ≡ Some line =
      ap (λ (f : FrameOf ℕ). slice_get (code_at p f.kind f.state) f.at) before.is_last ∙ there in
      let none : stop_at c line.instr before.last ≡ None =
      sym (stop_renamed name c line.instr before.last) ∙ ap (stop_at c line.instr) before.is_last ∙ stays in
      let (next, is_step, is_next) =
      renamed_step name (act_of c line.instr before.last) next'
      (sym (act-renamed name c line.instr before.last) ∙ ap (act_of c line.instr) before.is_last ∙ acts) in
      let moves = passes-moves before.last next c line.instr none is_step in
      record {
        last = next;
        is_last = is_next;
        kind = moves.kind ∙ before.kind;
        futures = moves.futures ∙ before.futures;
        taken = suc before.taken;
        comes = λ r runs.
            let runs_there = runs_with r t n (OfKind q) (OfKind before.last) runs in
            steps_next p c units before.taken r ∙ ap (step p c units) (before.comes r runs)
            ∙ step_line p c units (with_body r t (OfKind before.last)) t n before.last line runs_there at_line
            ∙ ap (does' before.last line r) is_step ∙ body_twice r t (OfKind before.last) (OfKind next);
      }
    where
      does' : FrameOf ℕ → Line → Run → Does ℕ → Run
      does' f line r a = does p units (with_body r t (OfKind f)) t f line.instr a

-- a later moment is reached
pub reached_later : (p : Program) (c : Columns) (plan : RunPlan) (r : Run) (n : ℕ) → IsReached p c plan r
    → IsReached p c plan (steps p c plan.units n r)
reached_later p c plan r zero reached = reached
reached_later p c plan r (suc n) reached = reached_later p c plan (step p c plan.units r) n (reached_next p c plan r reached)

-- in words that say another body, with the same names
pub body_runs : (p : Program) (c : Columns) (plan : RunPlan) (e : EngineState) (r s : Run) (unit : ℕ) (words next : List ℕ)
    (runs : Runs p c plan e unit words r) (new : Body)
    → s ≡ with_body r runs.t new → IsReached p c plan s → SeesBody p r.blocks next new
    → body_length p (body_of p next) ≡ body_length p (body_of p words) → names_of new ≡ names_of runs.body
    → Runs p c plan e unit next s
body_runs p c plan e r s unit words next runs new same reached says long names =
    let was = own_says p plan.units [] runs.t words e r runs.body runs.sees runs.runs.has in
    let sees = sees_body p plan.units [] [] runs.t words next runs.body new e r runs.sees runs.runs.has (λ u. ap (λ xs. 0 + times u xs) names) says
    (frame_size p next says.frame ∙ long ∙ sym (frame_size p words was.frame)) in
    subst (Runs p c plan e unit next) (sym same)
    (runs_again p c plan e unit next r runs.t runs.n runs.body new runs.runs runs.at (subst (IsReached p c plan) same reached) sees)

-- the same after some steps
runs_on : (p : Program) (c : Columns) (plan : RunPlan) (e : EngineState) (r : Run) (unit : ℕ) (words next : List ℕ)
    (runs : Runs p c plan e unit words r) (new : Body) (taken : ℕ)
    → steps p c plan.units taken r ≡ with_body r runs.t new → SeesBody p r.blocks next new
    → body_length p (body_of p next) ≡ body_length p (body_of p words) → names_of new ≡ names_of runs.body
    → RunsOn p c plan e unit next r
runs_on p c plan e r unit words next runs new taken comes says long names = (
  taken,
  body_runs p c plan e r (steps p c plan.units taken r) unit words next runs new comes
      (reached_later p c plan r taken runs.reached) says long names,
)

-- to go on is what some steps of the run do
pub advance_is_steps : AdvanceIsSteps
advance_is_steps p c plan e r unit words next asked may runs frame goes = by runs.body refl (body_of p next) refl
    (subst (λ b. BodyAdvances p c b asked (body_of p next)) was.says goes)
  where
    was : SeesBody p r.blocks words runs.body
    was = own_says p plan.units [] runs.t words e r runs.body runs.sees runs.runs.has

    by : (body : Body) → runs.body ≡ body → (after : BodyOf ℕ) → body_of p next ≡ after
        → BodyAdvances p c (body_with (unit_of r.blocks) runs.body) asked (body_of p next) → RunsOn p c plan e unit next r
    by (OfKind q) same (OfKind last') is_after advances =
        let goes : BodyAdvances p c (OfKind (frame_with (unit_of r.blocks) q)) asked (OfKind last') =
        subst (λ b. BodyAdvances p c (OfKind (frame_with (unit_of r.blocks) q)) asked b) is_after
        (subst (λ b. BodyAdvances p c (body_with (unit_of r.blocks) b) asked (body_of p next)) same advances) in
        let at_last = advanced p c plan.units runs.t runs.n (unit_of r.blocks) q last' goes.0 in
        let says : body_of p next ≡ body_with (unit_of r.blocks) (OfKind at_last.last) = is_after ∙ sym (ap OfKind at_last.is_last) in
        runs_on p c plan e r unit words next runs (OfKind at_last.last) at_last.taken
        (at_last.comes r (subst (RunsAt r runs.t runs.n) same runs.runs)) (record { frame = frame; says = says })
        (ap (body_length p) says ∙ ap (λ k. 1 + variables_of p k) at_last.kind
        ∙ sym (ap (body_length p) (was.says ∙ ap (body_with (unit_of r.blocks)) same)))
        (ap present at_last.futures ∙ sym (ap names_of same))
    by (OfKind q) same (OfMembers others at) is_after advances =
        absurd (subst (λ b. BodyAdvances p c (OfKind (frame_with (unit_of r.blocks) q)) asked b) is_after
        (subst (λ b. BodyAdvances p c (body_with (unit_of r.blocks) b) asked (body_of p next)) same advances))
    by (OfMembers members after) same (OfKind last') is_after advances =
        absurd (subst (λ b. BodyAdvances p c (OfMembers (filter_map (unit_of r.blocks) members) after) asked b) is_after
        (subst (λ b. BodyAdvances p c (body_with (unit_of r.blocks) b) asked (body_of p next)) same advances))
    by (OfMembers members after) same (OfMembers others at) is_after advances =
        let stays : BodyAdvances p c (OfMembers (filter_map (unit_of r.blocks) members) after) asked (OfMembers others at) =
        subst (λ b. BodyAdvances p c (OfMembers (filter_map (unit_of r.blocks) members) after) asked b) is_after
        (subst (λ b. BodyAdvances p c (body_with (unit_of r.blocks) b) asked (body_of p next)) same advances) in
        let says : body_of p next ≡ body_with (unit_of r.blocks) runs.body =
        is_after ∙ ap (λ ms. OfMembers ms at) stays.0 ∙ ap (OfMembers (filter_map (unit_of r.blocks) members)) stays.1
        ∙ sym (ap (body_with (unit_of r.blocks)) same) in
        runs_on p c plan e r unit words next runs runs.body 0 (body_itself r runs.t runs.body runs.runs.has) (record { frame = frame; says = says })
        (ap (body_length p) (says ∙ sym was.says)) refl

-- where the running frame stands

-- an aggregate asks for no copy and no drop
member_copies : (o : Option ℕ) (next to source : ℕ) → member_act o next ≡ act.Copy to source → ⊥
member_copies None next to source e = cc
member_copies (Some u) next to source e = cc

-- and no drop
member_drops : (o : Option ℕ) (next x : ℕ) → member_act o next ≡ act.Drop x → ⊥
member_drops None next x e = cc
member_drops (Some u) next x e = cc

-- a future that is held where a seated frame stands names a task
pub names_held : (p : Program) (r : Run) (after : Option ℕ) (q : FrameOf ℕ) (seat : IsSeated p r after true q) (x : ℕ)
    → Held seat.state q.at x → (u : ℕ) × (future_at q.futures x ≡ Some u)
names_held p r after q seat x held = has_some (future_at q.futures x) (seat.held x (held seat.facts seat.way))

-- the frame that runs, with its line
module _ (p : Program) (c : Columns) (plan : RunPlan) (e : EngineState) (r : Run) (unit : ℕ) (words : List ℕ) (may : MayRun p plan)
    (runs : Runs p c plan e unit words r) (q : FrameOf ℕ) (same : runs.body ≡ OfKind q) where
  pub frame_says : SeesBody p r.blocks words (OfKind q)
  frame_says = subst (SeesBody p r.blocks words) same (own_says p plan.units [] runs.t words e r runs.body runs.sees runs.runs.has)

  -- it runs
  pub frame_runs : RunsAt r runs.t runs.n (OfKind q)
  frame_runs = subst (RunsAt r runs.t runs.n) same runs.runs

  -- it is seated, as one that started
  pub frame_seat : IsSeated p r frame_runs.row.after true q
  frame_seat = (runs_stands p c plan r runs.t runs.n (OfKind q) may.formed may.valid runs.reached frame_runs).seat

  -- the unit that a variable names, and its task in use
  pub frame_unit : (x : ℕ) → unit_in (body_of p words) x ≡ renamed (unit_of r.blocks) (future_at q.futures x)
  frame_unit x = ap (λ b. unit_in b x) frame_says.says ∙ future_at-renamed (unit_of r.blocks) q.futures x

  -- what it names is in use
  pub frame_used : (x u : ℕ) → future_at q.futures x ≡ Some u → InUse [] r u
  frame_used x u e' = in_use_named [] r runs.t u (OfKind q) frame_runs.has (future_named q.futures x u e')

  -- a body of the same kind has as many words
  pub frame_long : (next : List ℕ) (new : FrameOf ℕ) → SeesBody p r.blocks next (OfKind new) → new.kind ≡ q.kind → length next ≡ length words
  frame_long next new says kind =
      frame_size p next says.frame ∙ ap (body_length p) says.says ∙ ap (λ k. 1 + variables_of p k) kind
      ∙ sym (frame_size p words frame_says.frame ∙ ap (body_length p) frame_says.says)

  -- words after a variable was set say the frame with the variable set
  pub set_says : (next : List ℕ) (x : ℕ) (future unit' : Option ℕ) → IsFrame p next → renamed (unit_of r.blocks) future ≡ unit'
      → body_of p next ≡ passed_on (with_future x unit' (body_of p words))
      → SeesBody p r.blocks next (OfKind (set_future q x future))
  set_says next x future unit' frame named e' = record {
    frame = frame;
    says =
        e' ∙ ap (λ b. passed_on (with_future x unit' b)) frame_says.says
        ∙ ap (λ o. OfKind (set_future (frame_with (unit_of r.blocks) q) x o)) (sym named)
        ∙ sym (ap OfKind (set_future-renamed (unit_of r.blocks) q x future));
  }

  -- the task runs on with the variable set
  pub set_runs : (e' : EngineState) (next : List ℕ) (x : ℕ) (future : Option ℕ)
      → Sees p plan.units [] (Some (runs.t, next)) e' (with_body r runs.t (OfKind (set_future q x future)))
      → step p c plan.units r ≡ with_body r runs.t (OfKind (set_future q x future)) → Runs p c plan e' unit next (step p c plan.units r)
  set_runs e' next x future sees steps_to =
      subst (Runs p c plan e' unit next) (sym steps_to)
      (runs_again p c plan e' unit next r runs.t runs.n (OfKind q) (OfKind (set_future q x future)) frame_runs runs.at
      (subst (IsReached p c plan) steps_to (reached_next p c plan r runs.reached)) sees)

-- a copy

-- what is to be shown of a copy, with the words that the running frame has
abbrev Copies : Program → Columns → RunPlan → EngineState → Run → ℕ → List ℕ → List ℕ → ℕ → ℕ → Type 0
Copies p c plan e r unit words next to source =
    (other : ℕ) × (unit_in (body_of p words) source ≡ Some other) × (other + 1 < 2 ^ 32) × MayHold other e.store
    × MayLetGoIf (unit_in (body_of p words) to) (held other e.store)
    × (IsFrame p next → body_of p next ≡ passed_on (with_future to (Some other) (body_of p words))
    → Runs p c plan (with_store e (let_go_if (unit_in (body_of p words) to) (held other e.store))) unit next (step p c plan.units r))

module _ (p : Program) (c : Columns) (plan : RunPlan) (e : EngineState) (r : Run) (unit : ℕ) (words next : List ℕ) (to source : ℕ)
    (may : MayRun p plan) (runs : Runs p c plan e unit words r) (q : FrameOf ℕ) (same : runs.body ≡ OfKind q)
    (line : Line) (there : slice_get (code_at p q.kind q.state) q.at ≡ Some line) (is_copy : line.instr ≡ Copy to source) where
  copies_from : (u : ℕ) → future_at q.futures source ≡ Some u → to < length q.futures → Copies p c plan e r unit words next to source
  copies_from u names within =
      let used = frame_used p c plan e r unit words may runs q same source u names in
      let (other, at) = unit_in_use p plan.units [] (Some (runs.t, words)) e r runs.sees u used in
      let few = few_references p c plan [] (Some (runs.t, words)) e r may runs.reached runs.sees (omega arith) u in
      let e' : EngineState = with_store e (held other e.store) in
      let sees' = sees_held p plan.units [] (Some (runs.t, words)) e r runs.sees u other used at in
      let runs_q = frame_runs p c plan e r unit words may runs q same in
      let gives_up = frame_unit p c plan e r unit words may runs q same to in
      let steps_to : step p c plan.units r ≡ with_body r runs.t (OfKind (set_future q to (Some u))) =
      step_line p c plan.units r runs.t runs.n q line runs_q there ∙ ap (λ instr. does p plan.units r runs.t q line.instr (act_of c instr q)) is_copy
      ∙ ap (λ o. with_body r runs.t (OfKind (set_future q to o))) names in (
        other,
        frame_unit p c plan e r unit words may runs q same source ∙ ap (renamed (unit_of r.blocks)) names ∙ at,
        unit_small p plan.units [] (Some (runs.t, words)) e r runs.sees u other used at,
        may_hold_used p plan.units [] (Some (runs.t, words)) e r u other runs.sees used at few,
        subst (λ o. MayLetGoIf o e'.store) (sym gives_up) (may_let_go_old p plan.units e' r runs.t words q to (Some u) sees' runs_q.has),
        λ frame is_next.
            let says = set_says p c plan e r unit words may runs q same next to (Some u) (Some other) frame at is_next in
            let long = frame_long p c plan e r unit words may runs q same next (set_future q to (Some u)) says refl in
            set_runs p c plan e r unit words may runs q same (with_store e (let_go_if (unit_in (body_of p words) to) (held other e.store))) next to
            (Some u)
            (subst (λ o. Sees p plan.units [] (Some (runs.t, next)) (with_store e (let_go_if o (held other e.store)))
            (with_body r runs.t (OfKind (set_future q to (Some u))))) (sym gives_up)
            (sees_set p plan.units e' r runs.t words q to (Some u) sees' runs_q.has next within says long)) steps_to,
      )

  -- the variable that is copied names a task
  copies : Copies p c plan e r unit words next to source
  copies =
      let seat = frame_seat p c plan e r unit words may runs q same in
      let after = (frame_runs p c plan e r unit words may runs q same).row.after in
      let sound : Held seat.state q.at source =
      subst (IsSoundInstr p seat.kind seat.state q.at) is_copy
      (seat_sound p may.formed may.valid c r after true q seat line there) in
      let formed : IsFormedInstr p seat.kind seat.state q.at (Copy to source) =
      subst (IsFormedInstr p seat.kind seat.state q.at) is_copy
      (seat_formed p may.formed may.valid c r after true q seat line there) in
      let (u, names) = names_held p r after q seat source sound in
      copies_from u names (omega (arith, future_within seat.kind to formed.0, seat.futures))

-- a copy is what the step does
pub copy_is_step : CopyIsStep
copy_is_step p c plan e r unit words next to source may runs asks = by runs.body refl (subst (λ b. AsksFor p c b (act.Copy to source)) was.says asks)
  where
    was : SeesBody p r.blocks words runs.body
    was = own_says p plan.units [] runs.t words e r runs.body runs.sees runs.runs.has

    by : (body : Body) → runs.body ≡ body → AsksFor p c (body_with (unit_of r.blocks) runs.body) (act.Copy to source)
        → Copies p c plan e r unit words next to source
    by (OfMembers members after) same asks =
        let member : AsksFor p c (OfMembers (filter_map (unit_of r.blocks) members) after) (act.Copy to source) =
        subst (λ b. AsksFor p c (body_with (unit_of r.blocks) b) (act.Copy to source)) same asks in
        absurd (member_copies (slice_get (filter_map (unit_of r.blocks) members) after) after to source member)
    by (OfKind q) same asks =
        let (line, there, stops) =
        stops_renamed (unit_of r.blocks) p c q (act.Copy to source)
        (subst (λ b. AsksFor p c (body_with (unit_of r.blocks) b) (act.Copy to source)) same asks) in
        copies p c plan e r unit words next to source may runs q same line there (stop_shape c line.instr q (act.Copy to source) stops)

-- a drop

-- what is to be shown of a drop
abbrev Drops : Program → Columns → RunPlan → EngineState → Run → ℕ → List ℕ → List ℕ → ℕ → Type 0
Drops p c plan e r unit words next x =
    MayLetGoIf (unit_in (body_of p words) x) e.store
    × (IsFrame p next → body_of p next ≡ passed_on (with_future x None (body_of p words))
    → Runs p c plan (with_store e (let_go_if (unit_in (body_of p words) x) e.store)) unit next (step p c plan.units r))

module _ (p : Program) (c : Columns) (plan : RunPlan) (e : EngineState) (r : Run) (unit : ℕ) (words next : List ℕ) (x : ℕ) (may : MayRun p plan)
    (runs : Runs p c plan e unit words r) (q : FrameOf ℕ) (same : runs.body ≡ OfKind q)
    (line : Line) (there : slice_get (code_at p q.kind q.state) q.at ≡ Some line) (is_drop : line.instr ≡ Drop x) where
  drops : Drops p c plan e r unit words next x
  drops =
      let seat = frame_seat p c plan e r unit words may runs q same in
      let runs_q = frame_runs p c plan e r unit words may runs q same in
      let formed : IsFormedInstr p seat.kind seat.state q.at (Drop x) =
      subst (IsFormedInstr p seat.kind seat.state q.at) is_drop
      (seat_formed p may.formed may.valid c r runs_q.row.after true q seat line there) in
      let within : x < length q.futures = omega (arith, future_within seat.kind x formed, seat.futures) in
      let gives_up = frame_unit p c plan e r unit words may runs q same x in
      let steps_to : step p c plan.units r ≡ with_body r runs.t (OfKind (set_future q x None)) =
      step_line p c plan.units r runs.t runs.n q line runs_q there
      ∙ ap (λ instr. does p plan.units r runs.t q line.instr (act_of c instr q)) is_drop in (
        subst (λ o. MayLetGoIf o e.store) (sym gives_up) (may_let_go_old p plan.units e r runs.t words q x None runs.sees runs_q.has),
        λ frame is_next.
            let says = set_says p c plan e r unit words may runs q same next x None None frame refl is_next in
            let long = frame_long p c plan e r unit words may runs q same next (set_future q x None) says refl in
            set_runs p c plan e r unit words may runs q same (with_store e (let_go_if (unit_in (body_of p words) x) e.store)) next x None
            (subst (λ o. Sees p plan.units [] (Some (runs.t, next)) (with_store e (let_go_if o e.store))
            (with_body r runs.t (OfKind (set_future q x None)))) (sym gives_up)
            (sees_set p plan.units e r runs.t words q x None runs.sees runs_q.has next within says long)) steps_to,
      )

-- a drop is what the step does
pub drop_is_step : DropIsStep
drop_is_step p c plan e r unit words next x may runs asks = by runs.body refl (subst (λ b. AsksFor p c b (act.Drop x)) was.says asks)
  where
    was : SeesBody p r.blocks words runs.body
    was = own_says p plan.units [] runs.t words e r runs.body runs.sees runs.runs.has

    by : (body : Body) → runs.body ≡ body → AsksFor p c (body_with (unit_of r.blocks) runs.body) (act.Drop x) → Drops p c plan e r unit words next x
    by (OfMembers members after) same asks =
        let member : AsksFor p c (OfMembers (filter_map (unit_of r.blocks) members) after) (act.Drop x) =
        subst (λ b. AsksFor p c (body_with (unit_of r.blocks) b) (act.Drop x)) same asks in
        absurd (member_drops (slice_get (filter_map (unit_of r.blocks) members) after) after x member)
    by (OfKind q) same asks =
        let (line, there, stops) =
        stops_renamed (unit_of r.blocks) p c q (act.Drop x) (subst (λ b. AsksFor p c (body_with (unit_of r.blocks) b) (act.Drop x)) same asks) in
        drops p c plan e r unit words next x may runs q same line there (stop_shape c line.instr q (act.Drop x) stops)
