-- Laws of the words of roots.
use Rattle.std.specs.Prelude.{◌≡◌, ◌↔◌, ℕ, ◌*◌, ◌+◌, ◌<◌, ◌≤◌}
use Rattle.kt_words.specs.RootWords.{FitsRootWord, packed_root, HasRootWord, IsRootWord}
use Rattle.kt_words.specs.declared.root_status.RootStatus.{RootStatus}
use Rattle.kt_words.specs.declared.root_status.RootStatus.TheVariants.{NotAsked, Record, Null, Limit, Skipped}

-- a value's word is a root's word
abbrev pub RootWordIsAmongThem : Type 0
RootWordIsAmongThem = (value : RootStatus) → FitsRootWord value → IsRootWord (packed_root value)

-- two values that fit and have one word are one value
abbrev pub RootWordHasOneValue : Type 0
RootWordHasOneValue = (one other : RootStatus) (word : ℕ) → HasRootWord word one → HasRootWord word other → one ≡ other

-- the word is 0 exactly before the root is asked for
abbrev pub ZeroIsNotAsked : Type 0
ZeroIsNotAsked = (value : RootStatus) → (packed_root value ≡ 0) ↔ (value ≡ NotAsked)

-- each unit of a pool, of at most 1,024 superblocks of 512, can be a root's
abbrev pub EachUnitFits : Type 0
EachUnitFits = (superblock units unit : ℕ) → superblock < 1024 → units ≤ 512 → unit < units → FitsRootWord (Record (superblock * units + unit))

-- each other answer fits, and of each of 16 roots that it was skipped
abbrev pub EachAnswerFits : Type 0
EachAnswerFits = FitsRootWord NotAsked × FitsRootWord Null × FitsRootWord Limit × ((root : ℕ) → root < 16 → FitsRootWord (Skipped root))
