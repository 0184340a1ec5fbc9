-- What is known of the task that runs: its frame's words, where it stands, and what a step does.
use Rattle.std.proofs.Common.{◌≡◌, ℕ, zero, suc, ◌+◌, Bool, true, false, cond, Option, Some, List, [], ◌∷◌, length, slice_get, slice_index, refl, sym, ◌∙◌, ap, subst}
use Rattle.std.specs.Prelude.{slice_set}
use Rattle.task_syntax.specs.Form.{IsWellFormed}
use Rattle.task_syntax.specs.Valid.{IsValid}
use Rattle.task_syntax.specs.declared.value.Value.{Value}
use Rattle.task_syntax.specs.declared.value.Value.TheVariants as value
use Rattle.task_syntax.specs.declared.instr.Instr.{Instr}
use Rattle.task_syntax.specs.declared.instr.Instr.TheVariants.{Set, Math, If, Goto, Label, Cell, Rows, Spawn, All, Copy, Drop, Get, Again, Done}
use Rattle.task_syntax.specs.declared.instr.Line.{Line}
use Rattle.task_syntax.specs.declared.program.Program.{Program}
use Rattle.task_syntax.specs.declared.columns.Columns.{Columns}
use Rattle.task_meaning.specs.Frame.{FrameOf, code_at, variables_of, frame_with, operand}
use Rattle.task_meaning.specs.Acts.{act_of}
use Rattle.task_meaning.specs.Arithmetic.{computed, cell_at}
use Rattle.frame_code.specs.Control.{control_kind, control_state, is_aggregate}
use Rattle.frame_code.specs.Words.{BodyOf, OfKind, OfMembers, body_of}
use Rattle.frame_code.specs.Frames.{IsFrame}
use Rattle.frame_code.specs.Stops.{trapped, stop_at, StopsAt}
use Rattle.frame_code.specs.declared.act.Act.{Act}
use Rattle.frame_code.specs.declared.act.Act.TheVariants as act
use Rattle.frame_code.proofs.ControlWords.{task-size, frame-members}
use Rattle.frame_code.proofs.Aggregates.{body-of_task, body-of_members, members-known}
use Rattle.record_core.specs.Numbers.{put_number, found}
use Rattle.record_core.specs.EndSeen.{RunPlan}
use Rattle.run_model.specs.State.{Body, Run}
use Rattle.run_model.specs.Step.{with_body, does, runs_line, runs_body, runs_row, step_with, step, steps, asked}
use Rattle.run_model.specs.Move.{RunsAt}
use Rattle.run_model.proofs.ByNumber.{found_put, found_within}
use Rattle.run_model.proofs.RunStands.{RunStands, run_stands}
use Rattle.run_model.proofs.FramesInvariant.{FramesStand}
use Rattle.run_model.proofs.TasksStand.{BodyStands, tasks_of}
use Rattle.run_model.proofs.FramesKept.{frames_always, running_stands}
use Rattle.plain_state.specs.Engine.{EngineState}
use Rattle.plain_state.specs.Sees.{Sees, SeesBody, IsReached, Runs, unit_of}
use Rattle.plain_state.specs.Store.{frame_at as words_at}
use Rattle.plain_state.proofs.References.{in_use_open}
use Rattle.plain_state.proofs.InHand.{own_frame}

-- how many words a frame of a body has
abbrev pub body_length : {A : Type 0} → Program → BodyOf A → ℕ
body_length p (OfKind q) = 1 + variables_of p q.kind
body_length p (OfMembers members next) = 1 + length members

-- the words of a frame are as many as its body says
pub frame_size : (p : Program) (words : List ℕ) → IsFrame p words → length words ≡ body_length p (body_of p words)
frame_size p words frame = by (is_aggregate (slice_index words 0)) refl
  where
    by : (b : Bool) → is_aggregate (slice_index words 0) ≡ b → length words ≡ body_length p (body_of p words)
    by false e = task-size p words frame e ∙ sym (ap (body_length p) (body-of_task p words e))
    by true e =
        let group = frame-members p words frame e in
        let size : length words ≡ 1 + control_state (slice_index words 0) =
        frame.size ∙ ap (λ b. cond b (1 + control_state (slice_index words 0)) (1 + variables_of p (control_kind (slice_index words 0)))) e in
        size ∙ ap (λ n. 1 + n) (sym (members-known words group)) ∙ sym (ap (body_length p) (body-of_members p words e))

-- one more step
pub steps_next : (p : Program) (c : Columns) (units n : ℕ) (r : Run) → steps p c units (suc n) r ≡ step p c units (steps p c units n r)
steps_next p c units zero r = refl
steps_next p c units (suc n) r = steps_next p c units n (step p c units r)

-- the next moment is reached
pub reached_next : (p : Program) (c : Columns) (plan : RunPlan) (r : Run) → IsReached p c plan r → IsReached p c plan (step p c plan.units r)
reached_next p c plan r (taken, e) = (suc taken, steps_next p c plan.units taken (asked p plan) ∙ ap (step p c plan.units) e)

-- what holds at each step of a run holds where it is reached
pub reached_stands : (p : Program) (c : Columns) (plan : RunPlan) (r : Run) → IsReached p c plan r → RunStands p plan.limit r
reached_stands p c plan r (taken, e) = subst (RunStands p plan.limit) e (run_stands p c plan taken)

-- and so do its frames
pub reached_frames : (p : Program) (c : Columns) (plan : RunPlan) (r : Run) → IsWellFormed p → IsValid p → IsReached p c plan r → FramesStand p r
reached_frames p c plan r formed valid (taken, e) = subst (FramesStand p) e (frames_always p formed valid c plan taken)

-- what a step of a running task does
pub step_body : (p : Program) (c : Columns) (units : ℕ) (r : Run) (t n : ℕ) (body : Body) → RunsAt r t n body
    → step p c units r ≡ runs_body p c units r n t (Some body)
step_body p c units r t n body runs =
    ap (step_with p c units r) runs.running ∙ ap (runs_row p c units r n) runs.there
    ∙ ap (λ u. runs_body p c units r n u (found r.bodies u)) runs.of_task ∙ ap (runs_body p c units r n t) runs.has

-- the line of a frame is done
pub step_line : (p : Program) (c : Columns) (units : ℕ) (r : Run) (t n : ℕ) (q : FrameOf ℕ) (line : Line) → RunsAt r t n (OfKind q)
    → slice_get (code_at p q.kind q.state) q.at ≡ Some line
    → step p c units r ≡ does p units r t q line.instr (act_of c line.instr q)
step_line p c units r t n q line runs there = step_body p c units r t n (OfKind q) runs ∙ ap (runs_line p c units r t q) there

-- two bodies, one after the other
pub put_twice : {A : Type 0} (xs : List A) (n : ℕ) (x y : A) → put_number (put_number xs n x) n y ≡ put_number xs n y
put_twice xs zero x y = refl
put_twice xs (suc n) x y = go xs n
  where
    go : (xs : List _) (n : ℕ) → slice_set (slice_set xs n x) n y ≡ slice_set xs n y
    go [] n = refl
    go (z ∷ zs) zero = refl
    go (z ∷ zs) (suc n) = ap (λ ws. z ∷ ws) (go zs n)

-- the run with two bodies, one after the other
pub body_twice : (r : Run) (t : ℕ) (one other : Body) → with_body (with_body r t one) t other ≡ with_body r t other
body_twice r t one other = ap (λ bs. record r { bodies = bs }) (put_twice r.bodies t (Some one) (Some other))

-- the task runs at another body
pub runs_with : (r : Run) (t n : ℕ) (old new : Body) → RunsAt r t n old → RunsAt (with_body r t new) t n new
runs_with r t n old new runs =
    let within = found_within r.bodies t old runs.has in
    record {
      row = runs.row;
      running = runs.running;
      there = runs.there;
      of_task = runs.of_task;
      has = found_put r.bodies t
          (Some new) within.0 within.1;
    }

-- a frame stops under other names where it stops under its own
pub stop_renamed : {A B : Type 0} (name : A → Option B) (c : Columns) (instr : Instr) (q : FrameOf A)
    → stop_at c instr (frame_with name q) ≡ stop_at c instr q
stop_renamed name c (Set to value) q = refl
stop_renamed name c (Math op to left right) q = refl
stop_renamed name c (If relation left right target) q = refl
stop_renamed name c (Goto target) q = refl
stop_renamed name c (Label at) q = refl
stop_renamed name c (Cell to column row) q = refl
stop_renamed name c (Rows to column) q = refl
stop_renamed name c (Spawn to kind arguments waits priority retry) q = refl
stop_renamed name c (All to members priority retry) q = refl
stop_renamed name c (Copy to source) q = refl
stop_renamed name c (Drop future) q = refl
stop_renamed name c (Get to future) q = refl
stop_renamed name c (Again target waits priority) q = refl
stop_renamed name c (Done value) q = refl

-- the frame of the run stops where that of the engine stops
pub stops_renamed : {A B : Type 0} (name : A → Option B) (p : Program) (c : Columns) (q : FrameOf A) (asked : Act)
    → StopsAt p c (frame_with name q) asked → StopsAt p c q asked
stops_renamed name p c q asked (line, there, stops) = (line, there, sym (stop_renamed name c line.instr q) ∙ stops)

-- which instruction stops a frame so
abbrev pub StopShape : Option Act → Instr → Type 0
StopShape (Some (act.Copy to source)) instr = instr ≡ Copy to source
StopShape (Some (act.Drop x)) instr = instr ≡ Drop x
StopShape (Some (act.NeedsValue x)) instr = (to : ℕ) × (instr ≡ Get to x)
StopShape (Some (act.Again request)) instr = instr ≡ Again request.target request.behind request.priority
StopShape _ instr = Unit {0}

-- a value stops no frame but by a trap
trap_shape : (v : Value) (instr : Instr) → StopShape (trapped v) instr
trap_shape (value.Number n) instr = tt
trap_shape (value.Trapped t) instr = tt

-- each instruction that stops a frame
stop_shapes : (c : Columns) (instr : Instr) (q : FrameOf ℕ) → StopShape (stop_at c instr q) instr
stop_shapes c (Math op to left right) q = trap_shape (computed op (operand q.numbers left) (operand q.numbers right)) (Math op to left right)
stop_shapes c (Cell to column row) q = trap_shape (cell_at c column (operand q.numbers row)) (Cell to column row)
stop_shapes c (Copy to source) q = refl
stop_shapes c (Drop future) q = refl
stop_shapes c (Get to future) q = (to, refl)
stop_shapes c (Again target waits priority) q = refl
stop_shapes c _ q = tt

-- so the act tells the instruction
pub stop_shape : (c : Columns) (instr : Instr) (q : FrameOf ℕ) (asked : Act) → stop_at c instr q ≡ Some asked → StopShape (Some asked) instr
stop_shape c instr q asked e = subst (λ o. StopShape o instr) e (stop_shapes c instr q)

-- the words that the engine has of the frame are a frame, and say the body
module _ (p : Program) (units : ℕ) (hand : List ℕ) (t : ℕ) (words : List ℕ) (e : EngineState) (r : Run) (body : Body)
    (sees : Sees p units hand (Some (t, words)) e r) (has : found r.bodies t ≡ Some body) where
  pub own_says : SeesBody p r.blocks words body
  own_says = let st = sees.tasks t (in_use_open hand r t body has) in
      subst (λ ws. SeesBody p r.blocks ws body) (own_frame t words (words_at e.store st.block.unit)) (st.body body has)

-- what stands of the task that runs
pub runs_stands : (p : Program) (c : Columns) (plan : RunPlan) (r : Run) (t n : ℕ) (body : Body) → IsWellFormed p → IsValid p → IsReached p c plan r
    → (runs : RunsAt r t n body)
    → BodyStands p r t runs.row.after true body
runs_stands p c plan r t n body formed valid reached runs =
    running_stands p r (reached_stands p c plan r reached).numbers (tasks_of p r (reached_frames p c plan r formed valid reached)) t n body runs

-- it runs on at another body, in a state that is reached
pub runs_again : (p : Program) (c : Columns) (plan : RunPlan) (e : EngineState) (unit : ℕ) (words : List ℕ) (r : Run) (t n : ℕ) (old new : Body)
    → RunsAt r t n old → unit_of r.blocks t ≡ Some unit
    → IsReached p c plan (with_body r t new) → Sees p plan.units [] (Some (t, words)) e (with_body r t new)
    → Runs p c plan e unit words (with_body r t new)
runs_again p c plan e unit words r t n old new runs at reached sees = record {
  reached = reached;
  t = t;
  n = n;
  body = new;
  runs = runs_with r t n old new runs;
  at = at;
  sees = sees;
}
