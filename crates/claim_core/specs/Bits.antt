-- Bits in words of 64, the lowest bit of a word first.
use Rattle.std.specs.Prelude.{ℕ, ◌/◌, ◌%◌, ◌==◌, Bool, List, map, slice_index}
use Rattle.std.specs.Int.{bit_at}
use Rattle.std.specs.List.{range_with_len}

-- whether a bit is set
abbrev pub is_one : List ℕ → ℕ → Bool
is_one words bit = bit_at (slice_index words (bit / 64)) (bit % 64) == 1

-- the first bits of the words
unfoldable pub first_bits : ℕ → List ℕ → List Bool
first_bits size words = map (is_one words) (range_with_len 0 size)
