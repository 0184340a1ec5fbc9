-- The frame of a task past an act by which it asked for another task.
use Rattle.std.specs.Prelude.{ℕ, suc, ◌+◌, List, slice_index, slice_set}
use Rattle.task_syntax.specs.declared.program.Program.{Program}
use Rattle.frame_code.specs.Control.{control_word, control_kind, control_state, control_at}
use Rattle.frame_code.specs.Layout.{future_place}
use Rattle.frame_code.specs.Words.{variables_at}

-- the words of a frame at the next line
abbrev pub next_words : List ℕ → List ℕ
next_words words = slice_set words 0 (control_word (control_kind (slice_index words 0)) (control_state (slice_index words 0)) (control_at (slice_index words 0) + 1))

-- where this future variable names the unit besides
abbrev pub past_words : Program → List ℕ → ℕ → ℕ → List ℕ
past_words p words to unit = slice_set (next_words words) (future_place (variables_at p (control_kind (slice_index (next_words words) 0))) to) (suc unit)
