-- The control word says what it was made of, and a frame with another control word of its kind is a frame.
use Rattle.std.proofs.Common.{◌≡◌, ℕ, ◌+◌, ◌<◌, true, false, cond, nat_eq, List, length, slice_index, sym, ◌∙◌, ap, subst, arith}
use Rattle.task_syntax.specs.declared.program.Program.{Program}
use Rattle.task_meaning.specs.Frame.{variables_of, code_at}
use Rattle.frame_code.specs.Control.{control_word, control_kind, control_state, control_at, is_aggregate, aggregate_code}
use Rattle.frame_code.specs.Frames.{frame_length, IsKindControl, IsAggregateFrame, IsFrame}

module _ (kind state at : ℕ) (kind_fits : kind < 256) (state_fits : state < 256) (at_fits : at < 256) where
  pub kind-of_word : control_kind (control_word kind state at) ≡ kind
  kind-of_word = omega arith

  pub state-of_word : control_state (control_word kind state at) ≡ state
  state-of_word = omega arith

  pub at-of_word : control_at (control_word kind state at) ≡ at
  at-of_word = omega arith

  pub word-fits : control_word kind state at < 16777216
  word-fits = omega arith

pub kind-fits : (word : ℕ) → control_kind word < 256
kind-fits word = omega arith

pub state-fits : (word : ℕ) → control_state word < 256
state-fits word = omega arith

pub at-fits : (word : ℕ) → control_at word < 256
at-fits word = omega arith

-- a control word is made of what it says
pub word-of_parts : (word : ℕ) → word < 16777216 → control_word (control_kind word) (control_state word) (control_at word) ≡ word
word-of_parts word fits = omega arith

-- the control word of a task's frame says a line of its kind
pub frame-line : (p : Program) (words : List ℕ) → IsFrame p words → is_aggregate (slice_index words 0) ≡ false → IsKindControl p (slice_index words 0)
frame-line p words frame task = subst (λ b. cond b (IsAggregateFrame (slice_index words)) (IsKindControl p (slice_index words 0))) task frame.says

pub frame-members : (p : Program) (words : List ℕ) → IsFrame p words → is_aggregate (slice_index words 0) ≡ true → IsAggregateFrame (slice_index words)
frame-members p words frame group = subst (λ b. cond b (IsAggregateFrame (slice_index words)) (IsKindControl p (slice_index words 0))) group frame.says

pub task-size : (p : Program) (words : List ℕ) → IsFrame p words → is_aggregate (slice_index words 0) ≡ false
    → length words ≡ 1 + variables_of p (control_kind (slice_index words 0))
task-size p words frame task = frame.size
    ∙ ap (λ b. cond b (1 + control_state (slice_index words 0)) (1 + variables_of p (control_kind (slice_index words 0)))) task

-- words of the same length with the same control word are a frame of the task too
pub same-head_frame : (p : Program) (old new : List ℕ) → IsFrame p old → is_aggregate (slice_index old 0) ≡ false → length new ≡ length old
    → slice_index new 0 ≡ slice_index old 0 → IsFrame p new
same-head_frame p old new frame task long head = record {
  size = long ∙ (frame.size ∙ ap (frame_length p) (sym head));
  few = omega (arith, long, frame.few);
  control = omega (arith, head, frame.control);
  says = subst (λ b. cond b (IsAggregateFrame (slice_index new)) (IsKindControl p (slice_index new 0))) (sym (ap is_aggregate head ∙ task))
      (subst (IsKindControl p) (sym head) (frame-line p old frame task));
}

module _ (p : Program) (old new : List ℕ) (state at : ℕ) (frame : IsFrame p old) (task : is_aggregate (slice_index old 0) ≡ false) (as_long : length new ≡ length old)
    (head : slice_index new 0 ≡ control_word (control_kind (slice_index old 0)) state at) (line : at < length (code_at p (control_kind (slice_index old 0)) state))
    (state_fits : state < 256) (at_fits : at < 256)
  where
    kind : ℕ
    kind = control_kind (slice_index old 0)

    pub moved-kind : control_kind (slice_index new 0) ≡ control_kind (slice_index old 0)
    moved-kind = ap control_kind head ∙ kind-of_word (control_kind (slice_index old 0)) state at (kind-fits (slice_index old 0)) state_fits at_fits

    pub moved-state : control_state (slice_index new 0) ≡ state
    moved-state = ap control_state head ∙ state-of_word (control_kind (slice_index old 0)) state at (kind-fits (slice_index old 0)) state_fits at_fits

    pub moved-at : control_at (slice_index new 0) ≡ at
    moved-at = ap control_at head ∙ at-of_word (control_kind (slice_index old 0)) state at (kind-fits (slice_index old 0)) state_fits at_fits

    pub moved-task : is_aggregate (slice_index new 0) ≡ false
    moved-task = ap (λ n. nat_eq n aggregate_code) moved-kind ∙ task

    pub moved-frame : IsFrame p new
    moved-frame = record {
      size = as_long ∙ (task-size p old frame task ∙ (ap (λ k. 1 + variables_of p k) (sym moved-kind)
          ∙ ap (λ b. cond b (1 + control_state (slice_index new 0)) (1 + variables_of p (control_kind (slice_index new 0)))) (sym moved-task)));
      few = omega (arith, as_long, frame.few);
      control = omega (arith, head, word-fits (control_kind (slice_index old 0)) state at (kind-fits (slice_index old 0)) state_fits at_fits);
      says = subst (λ b. cond b (IsAggregateFrame (slice_index new)) (IsKindControl p (slice_index new 0))) (sym moved-task) (record {
        kind = subst (λ k. k < length p.kinds) (sym moved-kind) (frame-line p old frame task).kind;
        line = omega (arith, line, moved-at, ap (λ k. length (code_at p k (control_state (slice_index new 0)))) moved-kind, ap (λ s. length (code_at p (control_kind (slice_index old 0)) s)) moved-state);
      });
    }
