-- A task's frame that is moved to another line: which frame it is then.
use Rattle.std.proofs.Common.{◌≡◌, ◌≢◌, ℕ, ◌<◌, Bool, true, false, cond, Option, Some, None, List, length, slice_get, slice_index, refl, ◌∙◌, ap, subst, arith}
use Rattle.std.specs.List.{refill}
use Rattle.std.proofs.lemmas.List.{get_or-set_same, get_or-set_other, length-set}
use Rattle.task_syntax.specs.declared.instr.Line.{Line}
use Rattle.task_syntax.specs.declared.program.State.{State}
use Rattle.task_syntax.specs.declared.program.Kind.{Kind}
use Rattle.task_syntax.specs.declared.program.Program.{Program}
use Rattle.task_meaning.specs.Frame.{code_at, code_in, state_in}
use Rattle.frame_code.specs.Control.{control_word, control_kind, control_state, control_at, is_aggregate}
use Rattle.frame_code.specs.Words.{BodyOf, OfKind, OfMembers, variables_at, kind_frame, frame_at, members_at, body_of}
use Rattle.frame_code.specs.Frames.{IsFrame}
use Rattle.frame_code.specs.Run.{IsMovedTo}
use Rattle.frame_code.proofs.ControlWords.{task-size, moved-kind, moved-state, moved-at, moved-task, moved-frame}
use Rattle.frame_code.proofs.RunLines.{frame-changed}
use Rattle.frame_code.proofs.Aggregates.{refill-same, body-of_task}

-- a body of which something holds that holds of no aggregate is a task's
pub task-stands : (p : Program) (words : List ℕ) (P : BodyOf ℕ → Type 0) → ((members : List ℕ) (next : ℕ) → P (OfMembers members next) → ⊥) → P (body_of p words)
    → (is_aggregate (slice_index words 0) ≡ false) × P (OfKind (frame_at p (slice_index words)))
task-stands p words P none h = by (is_aggregate (slice_index words 0)) refl h
  where
    by : (b : Bool) → is_aggregate (slice_index words 0) ≡ b
        → P (cond b (OfMembers (members_at (slice_index words)) (control_at (slice_index words 0))) (OfKind (frame_at p (slice_index words))))
        → (is_aggregate (slice_index words 0) ≡ false) × P (OfKind (frame_at p (slice_index words)))
    by true e h = absurd (none _ _ h)
    by false e h = (e, h)

-- the kind and the state of a line at which a frame stands
pub record IsLineOf (p : Program) (kind state at : ℕ) (line : Line) : Type 0 where
  pub of_kind : Kind
  pub of_state : State
  pub is_kind : slice_get p.kinds kind ≡ Some of_kind
  pub is_state : slice_get of_kind.states state ≡ Some of_state
  pub is_line : slice_get of_state.code at ≡ Some line

pub line-of : (p : Program) (kind state at : ℕ) (line : Line) → slice_get (code_at p kind state) at ≡ Some line → IsLineOf p kind state at line
line-of p kind state at line e = in_kind (slice_get p.kinds kind) refl e
  where
    in_state : (k : Kind) (o : Option State) → slice_get p.kinds kind ≡ Some k → slice_get k.states state ≡ o → slice_get (code_in o) at ≡ Some line → IsLineOf p kind state at line
    in_state k None is_kind is_state f = cc
    in_state k (Some s) is_kind is_state f = record { of_kind = k; of_state = s; is_kind = is_kind; is_state = is_state; is_line = f }

    in_kind : (o : Option Kind) → slice_get p.kinds kind ≡ o → slice_get (code_in (state_in o state)) at ≡ Some line → IsLineOf p kind state at line
    in_kind None is_kind f = cc
    in_kind (Some k) is_kind f = in_state k (slice_get k.states state) is_kind refl f

-- the words that stand in a frame once it was moved
pub moved-words : (old words new : List ℕ) (state at : ℕ) → words ≡ old → IsMovedTo state at words new → IsMovedTo state at old (refill (length old) old new)
moved-words old words new state at same moved =
    let there : IsMovedTo state at old new = subst (λ ws. IsMovedTo state at ws new) same moved in
    refill-same old new (ap length there ∙ length-set old 0 _) ∙ there

module _ (p : Program) (old new : List ℕ) (state at : ℕ) (frame : IsFrame p old) (task : is_aggregate (slice_index old 0) ≡ false) (moved : IsMovedTo state at old new)
    (line : at < length (code_at p (control_kind (slice_index old 0)) state)) (state_fits : state < 256) (at_fits : at < 256)
  where
    moved-long : length new ≡ length old
    moved-long = ap length moved ∙ length-set old 0 _

    moved-head : slice_index new 0 ≡ control_word (control_kind (slice_index old 0)) state at
    moved-head =
        let some : 0 < length old = omega (arith, task-size p old frame task) in
        ap (λ (l : List ℕ). slice_index l 0) moved ∙ get_or-set_same old 0 _ 0 some

    moved-other : (k : ℕ) → k ≢ 0 → slice_index new k ≡ slice_index old k
    moved-other k h = ap (λ (l : List ℕ). slice_index l k) moved ∙ get_or-set_other old 0 k _ 0 h

    pub moved-is_frame : IsFrame p new
    moved-is_frame = moved-frame p old new state at frame task moved-long moved-head line state_fits at_fits

    pub moved-is_task : is_aggregate (slice_index new 0) ≡ false
    moved-is_task = moved-task p old new state at frame task moved-long moved-head line state_fits at_fits

    -- the variables are as they were
    pub moved-body : body_of p new ≡ OfKind (record (frame_at p (slice_index old)) { state = state; at = at })
    moved-body =
        let k : control_kind (slice_index new 0) ≡ control_kind (slice_index old 0) = moved-kind p old new state at frame task moved-long moved-head line state_fits at_fits in
        let s : control_state (slice_index new 0) ≡ state = moved-state p old new state at frame task moved-long moved-head line state_fits at_fits in
        let a : control_at (slice_index new 0) ≡ at = moved-at p old new state at frame task moved-long moved-head line state_fits at_fits in
        let changed = frame-changed (variables_at p (control_kind (slice_index old 0))) old new moved-other in
        let is : frame_at p (slice_index new) ≡ record (frame_at p (slice_index old)) { state = state; at = at }
        = ap (λ n. kind_frame (variables_at p n) (slice_index new)) k ∙ (changed ∙ cc) in
        body-of_task p new moved-is_task ∙ ap OfKind is
