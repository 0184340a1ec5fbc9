-- A task's frame that goes past its line: by `pass_on`, and by `give` with a number set.
use Rattle.std.proofs.Common.{◌≡◌, ℕ, ◌+◌, ◌<◌, false, Some, List, length, slice_get, slice_index, slice_set, refl, sym, ◌∙◌, ap, subst, arith}
use Rattle.std.specs.List.{refill}
use Rattle.std.proofs.lemmas.List.{get_or-set_other, length-set}
use Rattle.task_syntax.specs.Places.{IsNumberAt}
use Rattle.task_syntax.specs.Form.{IsWellFormed, IsFormedState, IsFormedInstr, Leaves}
use Rattle.task_syntax.specs.declared.instr.Instr.{Instr}
use Rattle.task_syntax.specs.declared.instr.Instr.TheVariants.{Spawn, All, Copy, Drop, Get}
use Rattle.task_syntax.specs.declared.instr.Line.{Line}
use Rattle.task_syntax.specs.declared.program.State.{State}
use Rattle.task_syntax.specs.declared.program.Variable.{Variable}
use Rattle.task_syntax.specs.declared.program.Kind.{Kind}
use Rattle.task_syntax.specs.declared.program.Program.{Program}
use Rattle.task_meaning.specs.Frame.{FrameOf, code_at, code_in, state_in, go_on, set_number, variables_in}
use Rattle.frame_code.specs.Control.{control_kind, control_state, control_at, is_aggregate}
use Rattle.frame_code.specs.Words.{OfKind, variable_list, variables_at, kind_frame, frame_at, body_of}
use Rattle.frame_code.specs.Layout.{number_place}
use Rattle.frame_code.specs.Frames.{IsFrame}
use Rattle.frame_code.specs.Moves.{IsRead, IsPassed, MayGive, MayPass, BodyIsGiven, passed_on}
use Rattle.frame_code.specs.Ways.{BodyKeepsWay}
use Rattle.frame_code.specs.Line.{standing}
use Rattle.frame_code.specs.Run.{unpacked, IsMovedTo}
use Rattle.frame_code.specs.declared.words.Control.{Control}
use Rattle.frame_code.proofs.Variables.{count-most}
use Rattle.frame_code.proofs.LaidOut.{place-low, place-high, set-at_place}
use Rattle.frame_code.proofs.Formed.{line-follows}
use Rattle.frame_code.proofs.ControlWords.{state-fits, task-size, same-head_frame}
use Rattle.frame_code.proofs.FrameWays.{way-on}
use Rattle.frame_code.proofs.Aggregates.{refill-same, body-of_task}
use Rattle.frame_code.proofs.MovedFrames.{task-stands, IsLineOf, line-of, moved-is_frame, moved-body}

-- after a spawn, an aggregate, a copy, a drop and a read a task goes on
pub passed-remains : (instr : Instr) → IsPassed instr → ¬ Leaves instr
passed-remains (Spawn to kind arguments waits priority retry) h l = l
passed-remains (All to members priority retry) h l = l
passed-remains (Copy to source) h l = l
passed-remains (Drop future) h l = l
passed-remains _ h l = h

read-remains : (instr : Instr) → IsRead instr → ¬ Leaves instr
read-remains (Get to future) h l = l
read-remains _ h l = h

-- a frame that stands at a line after which the task goes on
pub record GoesPast (p : Program) (old : List ℕ) (line : Line) : Type 0 where
  pub task : is_aggregate (slice_index old 0) ≡ false
  pub stands : slice_get (code_at p (control_kind (slice_index old 0)) (control_state (slice_index old 0))) (control_at (slice_index old 0)) ≡ Some line
  pub remains : ¬ Leaves line.instr

pub passes-past : (p : Program) (old : List ℕ) → MayPass p (body_of p old) → (line : Line) × GoesPast p old line
passes-past p old may =
    let s = task-stands p old (MayPass p) (λ members next h. h) may in
    (s.1.0, record { task = s.0; stands = s.1.1; remains = passed-remains s.1.0.instr s.1.2 })

pub gives-past : (p : Program) (old : List ℕ) → MayGive p (body_of p old) → (line : Line) × GoesPast p old line × IsRead line.instr
gives-past p old may =
    let s = task-stands p old (MayGive p) (λ members next h. h) may in
    (s.1.0, record { task = s.0; stands = s.1.1; remains = read-remains s.1.0.instr s.1.2 }, s.1.2)

-- the variables of a kind are those of the kind that is found
pub of-kind : (p program : Program) (k : ℕ) (kind : Kind) (vs : List Variable) → program ≡ p → slice_get program.kinds k ≡ Some kind → vs ≡ variables_at p k → vs ≡ kind.variables
of-kind p program k kind vs same found is = is ∙ (ap (λ (r : Program). variable_list (slice_get r.kinds k)) (sym same) ∙ ap variable_list found)

-- the line of a frame, as it is read
abbrev pub of-read : (p program : Program) (old read : List ℕ) (control : Control) (kind : Kind) (state : State) (line : Line) → program ≡ p → read ≡ old
    → control ≡ unpacked (slice_index read 0) → slice_get program.kinds control.kind ≡ Some kind → slice_get kind.states control.state ≡ Some state
    → slice_get state.code control.at ≡ Some line → IsLineOf p (control_kind (slice_index old 0)) (control_state (slice_index old 0)) (control_at (slice_index old 0)) line
of-read p program old read control kind state line same_program same says k s l =
    let is : control ≡ unpacked (slice_index old 0) = says ∙ ap (λ l. unpacked (slice_index l 0)) same in
    record {
      of_kind = kind;
      of_state = state;
      is_kind = ap (λ (r : Program). slice_get r.kinds (control_kind (slice_index old 0))) (sym same_program) ∙ (ap (λ (c : Control). slice_get program.kinds c.kind) (sym is) ∙ k);
      is_state = ap (λ (c : Control). slice_get kind.states c.state) (sym is) ∙ s;
      is_line = ap (λ (c : Control). slice_get state.code c.at) (sym is) ∙ l;
    }

pub past-read : (p : Program) (old : List ℕ) (line : Line) (to x : ℕ) → is_aggregate (slice_index old 0) ≡ false
    → IsLineOf p (control_kind (slice_index old 0)) (control_state (slice_index old 0)) (control_at (slice_index old 0)) line → line.instr ≡ Get to x → GoesPast p old line
past-read p old line to x task of reads = record {
  task = task;
  stands = ap (λ o. slice_get (code_in (state_in o (control_state (slice_index old 0)))) (control_at (slice_index old 0))) of.is_kind
      ∙ (ap (λ o. slice_get (code_in o) (control_at (slice_index old 0))) of.is_state ∙ of.is_line);
  remains = read-remains line.instr (subst IsRead (sym reads) tt);
}

pub of-past : (p : Program) (old : List ℕ) (line : Line) → GoesPast p old line
    → IsLineOf p (control_kind (slice_index old 0)) (control_state (slice_index old 0)) (control_at (slice_index old 0)) line
of-past p old line past = line-of p (control_kind (slice_index old 0)) (control_state (slice_index old 0)) (control_at (slice_index old 0)) line past.stands

module _ (p : Program) (old : List ℕ) (line : Line) (formed : IsWellFormed p) (past : GoesPast p old line)
    (of : IsLineOf p (control_kind (slice_index old 0)) (control_state (slice_index old 0)) (control_at (slice_index old 0)) line)
  where
    of-formed : IsFormedState p of.of_kind of.of_state
    of-formed = (formed.kinds (control_kind (slice_index old 0)) of.of_kind of.is_kind).states (control_state (slice_index old 0)) of.of_state of.is_state

    next-within : control_at (slice_index old 0) + 1 < length of.of_state.code
    next-within = line-follows p of.of_kind of.of_state (control_at (slice_index old 0)) line of-formed of.is_line past.remains

    pub next-fits : control_at (slice_index old 0) + 1 < 64
    next-fits = omega (arith, next-within, of-formed.fits)

    next-there : control_at (slice_index old 0) + 1 < length (code_at p (control_kind (slice_index old 0)) (control_state (slice_index old 0)))
    next-there =
        let code : code_at p (control_kind (slice_index old 0)) (control_state (slice_index old 0)) ≡ of.of_state.code
        = ap (λ o. code_in (state_in o (control_state (slice_index old 0)))) of.is_kind ∙ ap code_in of.is_state in
        subst (λ ls. control_at (slice_index old 0) + 1 < length ls) (sym code) next-within

    -- another frame of the same kind, state and line, with other numbers
    module _ (set new : List ℕ) (frame : IsFrame p set) (same_head : slice_index set 0 ≡ slice_index old 0)
        (moved : IsMovedTo (control_state (slice_index old 0)) (control_at (slice_index old 0) + 1) set new) where
      set-task : is_aggregate (slice_index set 0) ≡ false
      set-task = ap is_aggregate same_head ∙ past.task

      set-there : control_at (slice_index old 0) + 1 < length (code_at p (control_kind (slice_index set 0)) (control_state (slice_index old 0)))
      set-there = subst (λ h. control_at (slice_index old 0) + 1 < length (code_at p (control_kind h) (control_state (slice_index old 0)))) (sym same_head) next-there

      next-small : control_at (slice_index old 0) + 1 < 256
      next-small = omega (arith, next-fits)

      pub past-frame : IsFrame p new
      past-frame = moved-is_frame p set new (control_state (slice_index old 0)) (control_at (slice_index old 0) + 1) frame set-task moved set-there (state-fits (slice_index old 0)) next-small

      pub past-body : body_of p new ≡ OfKind (record (frame_at p (slice_index set)) { state = control_state (slice_index old 0); at = control_at (slice_index old 0) + 1 })
      past-body = moved-body p set new (control_state (slice_index old 0)) (control_at (slice_index old 0) + 1) frame set-task moved set-there (state-fits (slice_index old 0)) next-small

    -- where there was a way to the line, there is one to the next
    pub past-way : (next : FrameOf ℕ) (new : List ℕ) → next.kind ≡ control_kind (slice_index old 0) → next.state ≡ control_state (slice_index old 0)
        → next.at ≡ control_at (slice_index old 0) + 1 → body_of p new ≡ OfKind next → BodyKeepsWay p (body_of p old) (body_of p new)
    past-way next new k s a is = subst (λ b. BodyKeepsWay p b (body_of p new)) (sym (body-of_task p old past.task))
        (subst (λ b. BodyKeepsWay p (OfKind (frame_at p (slice_index old))) b) (sym is)
        (way-on p (frame_at p (slice_index old)) next line past.stands past.remains k s a))

    -- what `pass_on` promises
    pub passed-clauses : (new : List ℕ) → IsFrame p old → IsMovedTo (control_state (slice_index old 0)) (control_at (slice_index old 0) + 1) old new
        → IsFrame p new × (body_of p new ≡ passed_on (body_of p old)) × BodyKeepsWay p (body_of p old) (body_of p new)
    passed-clauses new frame moved =
        let is = past-body old new frame refl moved in
        (past-frame old new frame refl moved, is ∙ ap passed_on (sym (body-of_task p old past.task)), past-way (go_on (frame_at p (slice_index old))) new refl refl refl is)

    -- the variable of the read, and its place
    module _ (to x n : ℕ) (reads : line.instr ≡ Get to x) (frame : IsFrame p old) where
      pub read-number : IsNumberAt of.of_kind to
      read-number = (subst (IsFormedInstr p of.of_kind of.of_state (control_at (slice_index old 0))) reads
          (of-formed.instrs (control_at (slice_index old 0)) line of.is_line)).0

      pub read-variables : variables_at p (control_kind (slice_index old 0)) ≡ of.of_kind.variables
      read-variables = ap variable_list of.is_kind

      pub read-within : number_place of.of_kind.variables to < length old
      read-within =
          let size : length old ≡ 1 + length of.of_kind.variables = task-size p old frame past.task ∙ ap (λ o. 1 + variables_in o) of.is_kind in
          omega (arith, size, place-high of.of_kind to read-number, count-most of.of_kind.variables)

      -- what `give` promises: the words with the number in its place, moved on
      pub given-clauses : (set new : List ℕ) → set ≡ slice_set old (number_place of.of_kind.variables to) n
          → IsMovedTo (control_state (slice_index old 0)) (control_at (slice_index old 0) + 1) set new
          → IsFrame p new × BodyIsGiven p (body_of p old) n (body_of p new) × BodyKeepsWay p (body_of p old) (body_of p new)
      given-clauses set new is_set moved =
          let kind = of.of_kind in
          let k : ℕ = control_kind (slice_index old 0) in
          let s : ℕ = control_state (slice_index old 0) in
          let a : ℕ = control_at (slice_index old 0) in
          let same_head : slice_index set 0 ≡ slice_index old 0 = ap (λ (l : List ℕ). slice_index l 0) is_set
          ∙ get_or-set_other old (number_place kind.variables to) 0 n 0 (λ e. omega (arith, e, place-low kind to read-number)) in
          let set_frame : IsFrame p set = same-head_frame p old set frame past.task (ap length is_set ∙ length-set old _ n) same_head in
          let vs_set : variables_at p (control_kind (slice_index set 0)) ≡ kind.variables = ap (λ h. variables_at p (control_kind h)) same_head ∙ read-variables in
          let set_numbers : standing kind set (a + 1) ≡ set_number (standing kind old a) to n
          = ap (λ l. standing kind l (a + 1)) is_set ∙ set-at_place kind to read-number old n a read-within in
          let at_set : record (frame_at p (slice_index set)) { state = s; at = a + 1 } ≡ standing kind set (a + 1)
          = ap (λ vs. record (kind_frame vs (slice_index set)) { state = s; at = a + 1 }) vs_set
          ∙ ap (λ h. record (kind_frame kind.variables (slice_index set)) { state = control_state h; at = a + 1 }) (sym same_head) in
          let at_old : standing kind old a ≡ frame_at p (slice_index old) = ap (λ vs. kind_frame vs (slice_index old)) (sym read-variables) in
          let is : body_of p new ≡ OfKind (set_number (frame_at p (slice_index old)) to n)
          = past-body set new set_frame same_head moved ∙ ap OfKind (at_set ∙ (set_numbers ∙ ap (λ q. set_number q to n) at_old)) in (
            past-frame set new set_frame same_head moved,
            subst (λ b. BodyIsGiven p b n (body_of p new)) (sym (body-of_task p old past.task)) (subst (λ b. BodyIsGiven p (OfKind (frame_at p (slice_index old))) n b) (sym is)
                (line, past.stands, (to, x, reads, refl))),
            past-way (set_number (frame_at p (slice_index old)) to n) new refl refl refl is,
          )

-- what was written over the words of a frame, where the control word was read from them
pub written-next : (old read set new : List ℕ) (control : Control) → read ≡ old → control ≡ unpacked (slice_index read 0) → length set ≡ length old
    → IsMovedTo control.state (control.at + 1) set new
    → IsMovedTo (control_state (slice_index old 0)) (control_at (slice_index old 0) + 1) set (refill (length old) old new)
written-next old read set new control same says long moved =
    let is : control ≡ unpacked (slice_index old 0) = says ∙ ap (λ l. unpacked (slice_index l 0)) same in
    let there : IsMovedTo (control_state (slice_index old 0)) (control_at (slice_index old 0) + 1) set new
    = subst (λ (c : Control). IsMovedTo c.state (c.at + 1) set new) is moved in
    refill-same old new (ap length there ∙ (length-set set 0 _ ∙ long)) ∙ there
