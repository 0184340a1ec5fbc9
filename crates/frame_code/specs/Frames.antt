-- Which words are a frame of a program.
use Rattle.std.specs.Prelude.{◌≡◌, ℕ, ◌+◌, ◌<◌, ◌≤◌, cond, List, length, slice_index}
use Rattle.task_syntax.specs.declared.program.Program.{Program}
use Rattle.task_meaning.specs.Frame.{variables_of, code_at}
use Rattle.frame_code.specs.Control.{control_kind, control_state, control_at, is_aggregate}

-- how many words a frame with this control word has
abbrev pub frame_length : Program → ℕ → ℕ
frame_length p control = cond (is_aggregate control) (1 + control_state control) (1 + variables_of p (control_kind control))

-- the control word says a kind of the program, and a line of a state of it
pub record IsKindControl (p : Program) (control : ℕ) : Type 0 where
  pub kind : control_kind control < length p.kinds
  pub line : control_at control < length (code_at p (control_kind control) (control_state control))

-- there are 1 to 8 members, all named, and the next one is one of them or past the last
pub record IsAggregateFrame (words : ℕ → ℕ) : Type 0 where
  pub some : 1 ≤ control_state (words 0)
  pub few : control_state (words 0) ≤ 8
  pub next : control_at (words 0) ≤ control_state (words 0)
  pub named : (place : ℕ) → 1 ≤ place → place ≤ control_state (words 0) → 1 ≤ words place

pub record IsFrame (p : Program) (words : List ℕ) : Type 0 where
  pub size : length words ≡ frame_length p (slice_index words 0)
  pub few : length words ≤ 64
  pub control : slice_index words 0 < 16777216
  pub says : cond (is_aggregate (slice_index words 0)) (IsAggregateFrame (slice_index words)) (IsKindControl p (slice_index words 0))
