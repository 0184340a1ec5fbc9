-- How many words stand for superblocks.
use Rattle.std.specs.Prelude.{ℕ, ◌+◌, ◌*◌, ◌/◌}
use Rattle.kt_words.specs.declared.geometry.Geometry.{Geometry}

-- of each superblock 8 words, of which the first is its own, and 1 for each 64 bits
abbrev pub superblock_words_of : Geometry → ℕ
superblock_words_of g = g.superblocks * 8 + g.superblocks * ((g.units + 63) / 64)
