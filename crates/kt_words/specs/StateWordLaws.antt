-- Laws of the words of states, as numbers.
use Rattle.std.specs.Prelude.{◌≡◌, ℕ, ◌+◌, ◌-◌, ◌*◌, ◌^◌, ◌<◌}
use Rattle.kt_words.specs.StateWords.{FitsStateWord, IsStateWord, state_word, packed_state, phase_code, tag_code, phase_of, priority_of, tag_of, number_of}
use Rattle.kt_words.specs.declared.phase.Phase.{Phase}
use Rattle.kt_words.specs.declared.tag.Tag.{Tag}
use Rattle.kt_words.specs.declared.state_word.StateWord.{StateWord}

-- the word has these numbers
pub record StateWordSays (word phase priority tag number : ℕ) : Type 0 where
  pub phase_is : phase_of word ≡ phase
  pub priority_is : priority_of word ≡ priority
  pub tag_is : tag_of word ≡ tag
  pub number_is : number_of word ≡ number

-- a word says the numbers that it is made of, and it is made of the numbers that it says
abbrev pub StateWordSaysItsNumbers : Type 0
StateWordSaysItsNumbers = (phase priority tag number : ℕ) → phase < 8 → priority < 4 → tag < 8
    → StateWordSays (state_word phase priority tag number) phase priority tag number

abbrev pub StateWordIsItsNumbers : Type 0
StateWordIsItsNumbers = (word : ℕ) → state_word (phase_of word) (priority_of word) (tag_of word) (number_of word) ≡ word

-- a value's word says the value's numbers, each in its range, and has 32 bits
abbrev pub StateWordSaysItsValue : Type 0
StateWordSaysItsValue = (value : StateWord) → FitsStateWord value
    → StateWordSays (packed_state value) (phase_code value.phase) value.priority (tag_code value.tag) value.number × IsStateWord (packed_state value) × (packed_state value < 2 ^ 32)

-- two values that fit and have one word are one value
abbrev pub StateWordHasOneValue : Type 0
StateWordHasOneValue = (one other : StateWord) → FitsStateWord one → FitsStateWord other → packed_state one ≡ packed_state other → one ≡ other

-- phases with one code are one phase, and tags too
abbrev pub PhaseHasOneCode : Type 0
PhaseHasOneCode = (one other : Phase) → phase_code one ≡ phase_code other → one ≡ other

abbrev pub TagHasOneCode : Type 0
TagHasOneCode = (one other : Tag) → tag_code one ≡ tag_code other → one ≡ other

-- another phase, priority, tag and number
abbrev pub PhaseChanges : Type 0
PhaseChanges = (word phase : ℕ) → phase < 8
    → StateWordSays (word - phase_of word + phase) phase (priority_of word) (tag_of word) (number_of word)

abbrev pub PriorityChanges : Type 0
PriorityChanges = (word priority : ℕ) → priority < 4
    → StateWordSays (word - 8 * priority_of word + 8 * priority) (phase_of word) priority (tag_of word) (number_of word)

abbrev pub TagChanges : Type 0
TagChanges = (word tag : ℕ) → tag < 8
    → StateWordSays (word - 32 * tag_of word + 32 * tag) (phase_of word) (priority_of word) tag (number_of word)

abbrev pub NumberChanges : Type 0
NumberChanges = (word number : ℕ)
    → StateWordSays (word - 256 * number_of word + 256 * number) (phase_of word) (priority_of word) (tag_of word) number
