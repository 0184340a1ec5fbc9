-- Laws of the words of superblocks, as numbers.
use Rattle.std.specs.Prelude.{◌≡◌, ◌↔◌, ℕ, ◌+◌, ◌-◌, ◌*◌, ◌^◌, ◌<◌, ◌≤◌}
use Rattle.kt_words.specs.SuperWords.{FitsSuperWord, IsSuperWord, super_word, packed_super, risen, reserved_word, count_of, class_of, ever_of}
use Rattle.kt_words.specs.declared.super_word.SuperWord.{SuperWord}

-- the word has these numbers
pub record SuperWordSays (word count class ever : ℕ) : Type 0 where
  pub count_is : count_of word ≡ count
  pub class_is : class_of word ≡ class
  pub ever_is : ever_of word ≡ ever

-- a word says the numbers that it is made of, and it is made of the numbers that it says
abbrev pub SuperWordSaysItsNumbers : Type 0
SuperWordSaysItsNumbers = (count class ever : ℕ) → count < 65536 → class < 16 → SuperWordSays (super_word count class ever) count class ever

abbrev pub SuperWordIsItsNumbers : Type 0
SuperWordIsItsNumbers = (word : ℕ) → super_word (count_of word) (class_of word) (ever_of word) ≡ word

-- a value's word says the value's numbers, each in its range, and has 64 bits
abbrev pub SuperWordSaysItsValue : Type 0
SuperWordSaysItsValue = (value : SuperWord) → FitsSuperWord value
    → SuperWordSays (packed_super value) value.count value.class value.ever × IsSuperWord (packed_super value) × (packed_super value < 2 ^ 64)

-- two values that fit and have one word are one value
abbrev pub SuperWordHasOneValue : Type 0
SuperWordHasOneValue = (one other : SuperWord) → FitsSuperWord one → FitsSuperWord other → packed_super one ≡ packed_super other → one ≡ other

-- a word has 64 bits exactly where its last number has 44
abbrev pub SuperWordFits : Type 0
SuperWordFits = (word : ℕ) → (word < 2 ^ 64) ↔ (ever_of word < 2 ^ 44)

-- one more
abbrev pub CountRises : Type 0
CountRises = (word : ℕ) → count_of word < 65535 → SuperWordSays (word + 1) (count_of word + 1) (class_of word) (ever_of word)

-- one less
abbrev pub CountFalls : Type 0
CountFalls = (word : ℕ) → 0 < count_of word → SuperWordSays (word - 1) (count_of word - 1) (class_of word) (ever_of word)

-- once more reserved
abbrev pub EverRises : Type 0
EverRises = (word : ℕ) → SuperWordSays (word + 1048576) (count_of word) (class_of word) (ever_of word + 1)

-- another class
abbrev pub ClassChanges : Type 0
ClassChanges = (word class : ℕ) → class < 16 → SuperWordSays (word - 65536 * class_of word + 65536 * class) (count_of word) class (ever_of word)

-- the word after a reservation has these numbers, and still 64 bits
abbrev pub WordReserves : Type 0
WordReserves = (word class : ℕ) → count_of word < 65535 → class < 16
    → SuperWordSays (reserved_word word class) (count_of word + 1) class (risen (ever_of word)) × (reserved_word word class < 2 ^ 64)

-- the last number rises by one up to 2^44 - 1, and stands still there
abbrev pub EverIsCounted : Type 0
EverIsCounted = ((ever : ℕ) → ever + 1 < 2 ^ 44 → risen ever ≡ ever + 1) × ((ever : ℕ) → 2 ^ 44 ≤ ever + 1 → risen ever + 1 ≡ 2 ^ 44)

-- where the class stays and the last number still rises, a reservation adds one to each of the two numbers
abbrev pub WordReservesSame : Type 0
WordReservesSame = (word : ℕ) → count_of word < 65535 → ever_of word + 1 < 2 ^ 44 → reserved_word word (class_of word) ≡ word + 1 + 1048576
