-- A unit's state word: its phase in the lowest 3 bits, its priority in 2, its tag in 3, and above these the number of
-- its activation, in 24.
use Rattle.std.specs.Prelude.{◌≡◌, ℕ, ◌+◌, ◌*◌, ◌/◌, ◌%◌, ◌^◌, ◌<◌, ◌≤◌}
use Rattle.kt_words.specs.declared.phase.Phase.{Phase}
use Rattle.kt_words.specs.declared.phase.Phase.TheVariants.{Free, Made, Waiting, Ready, Running, Complete}
use Rattle.kt_words.specs.declared.tag.Tag.{Tag}
use Rattle.kt_words.specs.declared.tag.Tag.TheVariants.{Unset, Number, Overflow, Divide, NoRow, Null, Limit}
use Rattle.kt_words.specs.declared.state_word.StateWord.{StateWord}

abbrev pub phase_code : Phase → ℕ
phase_code Free = 0
phase_code Made = 1
phase_code Waiting = 2
phase_code Ready = 3
phase_code Running = 4
phase_code Complete = 5

abbrev pub tag_code : Tag → ℕ
tag_code Unset = 0
tag_code Number = 1
tag_code Overflow = 2
tag_code Divide = 3
tag_code NoRow = 4
tag_code Null = 5
tag_code Limit = 6

-- the numbers that a word has room for
pub record FitsStateWord (value : StateWord) : Type 0 where
  pub priority_fits : value.priority ≤ 2
  pub number_fits : value.number < 2 ^ 24

-- the word of four numbers
abbrev pub state_word : ℕ → ℕ → ℕ → ℕ → ℕ
state_word phase priority tag number = phase + 8 * priority + 32 * tag + 256 * number

-- the word of a value
abbrev pub packed_state : StateWord → ℕ
packed_state value = state_word (phase_code value.phase) value.priority (tag_code value.tag) value.number

-- the numbers of a word
abbrev pub phase_of : ℕ → ℕ
phase_of word = word % 8

abbrev pub priority_of : ℕ → ℕ
priority_of word = word / 8 % 4

abbrev pub tag_of : ℕ → ℕ
tag_of word = word / 32 % 8

abbrev pub number_of : ℕ → ℕ
number_of word = word / 256

-- the value fits, and this is its word
abbrev pub HasStateWord : ℕ → StateWord → Type 0
HasStateWord word value = FitsStateWord value × (packed_state value ≡ word)

-- the value has the numbers of the word
pub record ReadsState (word : ℕ) (value : StateWord) : Type 0 where
  pub phase_is : phase_code value.phase ≡ phase_of word
  pub priority_is : value.priority ≡ priority_of word
  pub tag_is : tag_code value.tag ≡ tag_of word
  pub number_is : value.number ≡ number_of word

-- the words of which each number is in its range
pub record IsStateWord (word : ℕ) : Type 0 where
  pub phase_fits : phase_of word ≤ 5
  pub priority_fits : priority_of word ≤ 2
  pub tag_fits : tag_of word ≤ 6
  pub number_fits : number_of word < 2 ^ 24
