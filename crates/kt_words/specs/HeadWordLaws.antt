-- Laws of the heads of waiting lists, as numbers.
use Rattle.std.specs.Prelude.{◌≡◌, ℕ, ◌+◌, ◌-◌, ◌^◌, ◌<◌, Option}
use Rattle.kt_words.specs.HeadWords.{FitsHeadWord, IsHeadWord, ReadsHead, closed_word, link_code, head_word, packed_head, link_of, length_of}
use Rattle.kt_words.specs.declared.head_word.HeadWord.{HeadWord}

-- the word has these numbers
pub record HeadWordSays (word link length : ℕ) : Type 0 where
  pub link_is : link_of word ≡ link
  pub length_is : length_of word ≡ length

-- a word says the numbers that it is made of, and it is made of the numbers that it says
abbrev pub HeadWordSaysItsNumbers : Type 0
HeadWordSaysItsNumbers = (link length : ℕ) → link < 2 ^ 20 → HeadWordSays (head_word link length) link length

abbrev pub HeadWordIsItsNumbers : Type 0
HeadWordIsItsNumbers = (word : ℕ) → head_word (link_of word) (length_of word) ≡ word

-- a value's word says the value's numbers, each in its range, and has 64 bits
abbrev pub HeadWordSaysItsValue : Type 0
HeadWordSaysItsValue = (value : HeadWord) → FitsHeadWord value → ReadsHead (packed_head value) value × IsHeadWord (packed_head value) × (packed_head value < 2 ^ 64)

-- two values that fit and have one word are one value
abbrev pub HeadWordHasOneValue : Type 0
HeadWordHasOneValue = (one other : HeadWord) → FitsHeadWord one → FitsHeadWord other → packed_head one ≡ packed_head other → one ≡ other

-- links with one code are one link
abbrev pub LinkHasOneCode : Type 0
LinkHasOneCode = (one other : Option ℕ) → link_code one ≡ link_code other → one ≡ other

-- a word whose length fits is not the closed one, and has 42 bits
abbrev pub ListedIsNotClosed : Type 0
ListedIsNotClosed = (word : ℕ) → length_of word < 2 ^ 22 → (word ≡ closed_word → ⊥) × (word < 2 ^ 42)

-- one more waits, and one less
abbrev pub LengthRises : Type 0
LengthRises = (word : ℕ) → HeadWordSays (word + 1048576) (link_of word) (length_of word + 1)

abbrev pub LengthFalls : Type 0
LengthFalls = (word : ℕ) → 0 < length_of word → HeadWordSays (word - 1048576) (link_of word) (length_of word - 1)

-- another first
abbrev pub FirstChanges : Type 0
FirstChanges = (word link : ℕ) → link < 2 ^ 20 → HeadWordSays (word - link_of word + link) link (length_of word)
