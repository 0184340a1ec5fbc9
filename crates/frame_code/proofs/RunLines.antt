-- A run over the lines of a state, at a frame whose control word says this kind and this state.
use Rattle.std.proofs.Common.{◌≡◌, ◌≢◌, ℕ, ◌+◌, ◌<◌, false, Some, None, List, length, slice_get, slice_index, sym, ◌∙◌, ap, subst, arith}
use Rattle.std.proofs.lemmas.List.{get_or-set_same, get_or-set_other, length-set}
use Rattle.std.proofs.lemmas.Option.{slice_get_within}
use Rattle.task_syntax.specs.Form.{IsWellFormed, IsFormedState}
use Rattle.task_syntax.specs.declared.instr.Line.{Line}
use Rattle.task_syntax.specs.declared.program.Variable.{Variable}
use Rattle.task_syntax.specs.declared.program.State.{State}
use Rattle.task_syntax.specs.declared.program.Kind.{Kind}
use Rattle.task_syntax.specs.declared.program.Program.{Program}
use Rattle.task_syntax.specs.declared.columns.Columns.{Columns}
use Rattle.task_meaning.specs.Frame.{FrameOf, code_at, code_in, state_in}
use Rattle.task_meaning.specs.Acts.{Steps, act_of}
use Rattle.frame_code.specs.Control.{control_word, control_kind, control_state, control_at, is_aggregate}
use Rattle.frame_code.specs.Words.{number_count, numbers_from, futures_from, kind_frame, frame_at, variable_list, variables_at}
use Rattle.frame_code.specs.Frames.{IsFrame}
use Rattle.frame_code.specs.Stops.{stop_at, StopsAt, GoesTo, passes}
use Rattle.frame_code.specs.Line.{FitsKind, standing}
use Rattle.frame_code.specs.Run.{unpacked, IsMovedTo, IsRun}
use Rattle.frame_code.specs.declared.act.Act.{Act}
use Rattle.frame_code.specs.declared.words.Control.{Control}
use Rattle.frame_code.proofs.Variables.{numbers-same, futures-same}
use Rattle.frame_code.proofs.Formed.{formed-fits, passes-moves, next-line}
use Rattle.frame_code.proofs.ControlWords.{state-fits, task-size, moved-kind, moved-state, moved-at, moved-task, moved-frame}

-- the control word says this kind and this state
pub record StandsIn (p : Program) (head : ℕ) (kind : Kind) (state : State) : Type 0 where
  pub is_kind : slice_get p.kinds (control_kind head) ≡ Some kind
  pub is_state : slice_get kind.states (control_state head) ≡ Some state

pub stands-in : (p read : Program) (head : ℕ) (control : Control) (kind : Kind) (state : State) → read ≡ p → control ≡ unpacked head
    → slice_get read.kinds control.kind ≡ Some kind → slice_get kind.states control.state ≡ Some state → StandsIn p head kind state
stands-in p read head control kind state same says k s = record {
  is_kind = ap (λ (r : Program). slice_get r.kinds (control_kind head)) (sym same) ∙ (ap (λ (c : Control). slice_get read.kinds c.kind) (sym says) ∙ k);
  is_state = ap (λ (c : Control). slice_get kind.states c.state) (sym says) ∙ s;
}

-- the frame was moved to a line of the state that its control word says
pub moved-there : (head : ℕ) (control : Control) (at : ℕ) (read words new : List ℕ) → control ≡ unpacked head → read ≡ words
    → IsMovedTo control.state at read new → IsMovedTo (control_state head) at words new
moved-there head control at read words new says same moved =
    subst (λ s. IsMovedTo s at words new) (ap (λ (c : Control). c.state) says) (subst (λ ws. IsMovedTo control.state at ws new) same moved)

-- words that differ in the control word alone have the same variables
pub frame-changed : (vs : List Variable) (old new : List ℕ) → ((k : ℕ) → k ≢ 0 → slice_index new k ≡ slice_index old k)
    → kind_frame vs (slice_index new) ≡ record (kind_frame vs (slice_index old)) {
      kind = control_kind (slice_index new 0);
      state = control_state (slice_index new 0);
      at = control_at (slice_index new 0);
    }
frame-changed vs old new same =
    let numbers : numbers_from (slice_index new) 1 vs ≡ numbers_from (slice_index old) 1 vs
    = numbers-same (slice_index old) (slice_index new) 1 vs (λ k low high. same k (λ e. omega (arith, e, low))) in
    let futures : futures_from (slice_index new) (1 + number_count vs) vs ≡ futures_from (slice_index old) (1 + number_count vs) vs
    = futures-same (slice_index old) (slice_index new) (1 + number_count vs) vs (λ k low. same k (λ e. omega (arith, e, low))) in
    cc

module _ (p : Program) (head : ℕ) (kind : Kind) (state : State) (formed : IsWellFormed p) (stands : StandsIn p head kind state) where
  pub code-here : code_at p (control_kind head) (control_state head) ≡ state.code
  code-here = ap (λ o. code_in (state_in o (control_state head))) stands.is_kind ∙ ap code_in stands.is_state

  pub variables-here : variables_at p (control_kind head) ≡ kind.variables
  variables-here = ap variable_list stands.is_kind

  pub formed-here : IsFormedState p kind state
  formed-here = (formed.kinds (control_kind head) kind stands.is_kind).states (control_state head) state stands.is_state

  pub fits-here : (at : ℕ) (line : Line) → slice_get state.code at ≡ Some line → FitsKind kind line.instr
  fits-here at line e = formed-fits p kind state at line.instr (formed-here.instrs at line e)

  pub near-here : (at : ℕ) → at < length state.code → at < 64
  near-here at h = omega (arith, h, formed-here.fits)

  -- the frame of the words
  pub frame-here : (words : List ℕ) → slice_index words 0 ≡ head → frame_at p (slice_index words) ≡ standing kind words (control_at head)
  frame-here words same =
      let vs : variables_at p (control_kind (slice_index words 0)) ≡ kind.variables = ap (λ h. variables_at p (control_kind h)) same ∙ variables-here in
      ap (λ v. kind_frame v (slice_index words)) vs ∙ ap (λ h. standing kind words (control_at h)) same

  -- the line at which a frame of these words stands
  pub line-here : (words : List ℕ) (at : ℕ) (line : Line) → slice_index words 0 ≡ head → slice_get state.code at ≡ Some line
      → slice_get (code_at p (standing kind words at).kind (standing kind words at).state) at ≡ Some line
  line-here words at line same e = ap (λ h. slice_get (code_at p (control_kind h) (control_state h)) at) same ∙ (ap (λ ls. slice_get ls at) code-here ∙ e)

  -- one more line is passed
  pub passes-here : (c : Columns) (first : FrameOf ℕ) (words new : List ℕ) (at next : ℕ) (line : Line) → slice_index words 0 ≡ head → slice_get state.code at ≡ Some line
      → GoesTo p c first (standing kind words at) → stop_at c line.instr (standing kind words at) ≡ None
      → act_of c line.instr (standing kind words at) ≡ Steps (standing kind new next) → GoesTo p c first (standing kind new next)
  passes-here c first words new at next line same e goes none act = passes goes (line, line-here words at line same e, (none, act))

  pub next-here : (c : Columns) (words new : List ℕ) (at next : ℕ) (line : Line) → slice_get state.code at ≡ Some line
      → stop_at c line.instr (standing kind words at) ≡ None → act_of c line.instr (standing kind words at) ≡ Steps (standing kind new next)
      → (at < next) × (next < length state.code)
  next-here c words new at next line e none act = next-line p kind state line (standing kind words at) (standing kind new next) formed-here e
      (passes-moves (standing kind words at) (standing kind new next) c line.instr none act)

  -- the frame of words of which the control word alone changed
  stopped-frame : (words new : List ℕ) (at : ℕ) → control_kind (slice_index new 0) ≡ control_kind (slice_index words 0)
      → control_state (slice_index new 0) ≡ control_state (slice_index words 0) → control_at (slice_index new 0) ≡ at → control_kind (slice_index new 0) ≡ control_kind head
      → ((k : ℕ) → k ≢ 0 → slice_index new k ≡ slice_index words k) → frame_at p (slice_index new) ≡ standing kind words at
  stopped-frame words new at is_kind is_state is_at of_head other =
      let vs : variables_at p (control_kind (slice_index new 0)) ≡ kind.variables = ap (variables_at p) of_head ∙ variables-here in
      let changed = frame-changed kind.variables words new other in
      ap (λ v. kind_frame v (slice_index new)) vs ∙ (changed ∙ cc)

  -- the task stops: its frame is moved to the line, and it asks for this there
  pub run-here : (c : Columns) (old words new : List ℕ) (at : ℕ) (line : Line) (asked : Act) → IsFrame p old → slice_index old 0 ≡ head → is_aggregate head ≡ false
      → length words ≡ length old → slice_index words 0 ≡ head → IsMovedTo (control_state head) at words new → slice_get state.code at ≡ Some line
      → GoesTo p c (frame_at p (slice_index old)) (standing kind words at) → stop_at c line.instr (standing kind words at) ≡ Some asked → IsRun p c old asked new
  run-here c old words new at line asked frame was task long same moved e goes stop =
      let within : at < length state.code = slice_get_within state.code at line e in
      let as_old : slice_index words 0 ≡ slice_index old 0 = same ∙ sym was in
      let is_task : is_aggregate (slice_index old 0) ≡ false = ap is_aggregate was ∙ task in
      let some : 0 < length words = omega (arith, long, task-size p old frame is_task) in
      let first : slice_index new 0 ≡ control_word (control_kind (slice_index old 0)) (control_state (slice_index old 0)) at = ap (λ (l : List ℕ). slice_index l 0) moved
      ∙ (get_or-set_same words 0 _ 0 some ∙ (ap (λ h. control_word (control_kind h) (control_state head) at) as_old
      ∙ ap (λ h. control_word (control_kind (slice_index old 0)) (control_state h) at) (sym was))) in
      let other : (k : ℕ) → k ≢ 0 → slice_index new k ≡ slice_index words k = λ k h. ap (λ (l : List ℕ). slice_index l k) moved ∙ get_or-set_other words 0 k _ 0 h in
      let as_long : length new ≡ length old = ap length moved ∙ (length-set words 0 _ ∙ long) in
      let line_there : at < length (code_at p (control_kind (slice_index old 0)) (control_state (slice_index old 0)))
      = subst (λ h. at < length (code_at p (control_kind h) (control_state h))) (sym was) (subst (λ ls. at < length ls) (sym code-here) within) in
      let at_fits : at < 256 = omega (arith, near-here at within) in
      let state_at_old : ℕ = control_state (slice_index old 0) in
      let is_kind : control_kind (slice_index new 0) ≡ control_kind (slice_index old 0)
      = moved-kind p old new state_at_old at frame is_task as_long first line_there (state-fits (slice_index old 0)) at_fits in
      let is_state : control_state (slice_index new 0) ≡ state_at_old
      = moved-state p old new state_at_old at frame is_task as_long first line_there (state-fits (slice_index old 0)) at_fits in
      let is_at : control_at (slice_index new 0) ≡ at
      = moved-at p old new state_at_old at frame is_task as_long first line_there (state-fits (slice_index old 0)) at_fits in
      let is_frame : frame_at p (slice_index new) ≡ standing kind words at
      = stopped-frame words new at (is_kind ∙ ap control_kind (sym as_old)) (is_state ∙ ap control_state (sym as_old)) is_at
      (is_kind ∙ ap control_kind was) other in
      record {
        frame = moved-frame p old new state_at_old at frame is_task as_long first line_there (state-fits (slice_index old 0)) at_fits;
        is_task = moved-task p old new state_at_old at frame is_task as_long first line_there (state-fits (slice_index old 0)) at_fits;
        goes = subst (GoesTo p c (frame_at p (slice_index old))) (sym is_frame) goes;
        stops = subst (λ q. StopsAt p c q asked) (sym is_frame) (line, line-here words at line same e, stop);
      }
