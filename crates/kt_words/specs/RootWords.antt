-- The word of a root: 0 before it is asked for, a record's first unit plus 1, or a code above all of these.
use Rattle.std.specs.Prelude.{◌≡◌, ◌⊎◌, ℕ, ◌+◌, ◌<◌, ◌≤◌}
use Rattle.kt_words.specs.declared.root_status.RootStatus.{RootStatus}
use Rattle.kt_words.specs.declared.root_status.RootStatus.TheVariants.{NotAsked, Record, Null, Limit, Skipped}

-- a unit of the largest pool, and one of 16 roots
abbrev pub FitsRootWord : RootStatus → Type 0
FitsRootWord NotAsked = Unit {0}
FitsRootWord (Record unit) = unit < 524288
FitsRootWord Null = Unit {0}
FitsRootWord Limit = Unit {0}
FitsRootWord (Skipped root) = root < 16

-- the word of a value
abbrev pub packed_root : RootStatus → ℕ
packed_root NotAsked = 0
packed_root (Record unit) = unit + 1
packed_root Null = 1048577
packed_root Limit = 1048578
packed_root (Skipped root) = 1048579 + root

-- the value fits, and this is its word
abbrev pub HasRootWord : ℕ → RootStatus → Type 0
HasRootWord word value = FitsRootWord value × (packed_root value ≡ word)

-- the words of a root: those up to the last unit's, and the 18 codes
abbrev pub IsRootWord : ℕ → Type 0
IsRootWord word = (word ≤ 524288) ⊎ ((1048577 ≤ word) × (word ≤ 1048594))
