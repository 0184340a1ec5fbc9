-- The control word, which is word 0 of each frame. Its lowest 8 bits have the kind, or 255 for an aggregate; the next 8 the
-- state, or how many members there are; the next 8 the line, or the position of the next member. The other bits are 0.
use Rattle.std.specs.Prelude.{ℕ, ◌+◌, ◌*◌, ◌/◌, ◌%◌, Bool, nat_eq}

abbrev pub aggregate_code : ℕ
aggregate_code = 255

abbrev pub control_word : ℕ → ℕ → ℕ → ℕ
control_word kind state at = kind + 256 * state + 65536 * at

abbrev pub control_kind : ℕ → ℕ
control_kind word = word % 256

abbrev pub control_state : ℕ → ℕ
control_state word = word / 256 % 256

abbrev pub control_at : ℕ → ℕ
control_at word = word / 65536 % 256

-- a frame with this control word is an aggregate's; no kind has the number 255
abbrev pub is_aggregate : ℕ → Bool
is_aggregate word = nat_eq (control_kind word) aggregate_code
