-- The head of a list of waiting tasks: the closed word, which is bit 63 alone, or the link to the first of the list in
-- the lowest 20 bits, and above it the length, in 22.
use Rattle.std.specs.Prelude.{◌≡◌, ◌⊎◌, ℕ, ◌+◌, ◌*◌, ◌/◌, ◌%◌, ◌^◌, ◌<◌, Option, Some, None}
use Rattle.kt_words.specs.declared.head_word.HeadWord.{HeadWord}
use Rattle.kt_words.specs.declared.head_word.HeadWord.TheVariants.{Listed, Closed}

abbrev pub closed_word : ℕ
closed_word = 9223372036854775808

-- a link: 0 to nothing, else the unit plus 1
abbrev pub link_code : Option ℕ → ℕ
link_code None = 0
link_code (Some unit) = unit + 1

-- the numbers that a word has room for
abbrev pub FitsHeadWord : HeadWord → Type 0
FitsHeadWord Closed = Unit {0}
FitsHeadWord (Listed first length) = (link_code first < 2 ^ 20) × (length < 2 ^ 22)

-- the word of two numbers
abbrev pub head_word : ℕ → ℕ → ℕ
head_word link length = link + 1048576 * length

-- the word of a value
abbrev pub packed_head : HeadWord → ℕ
packed_head Closed = closed_word
packed_head (Listed first length) = head_word (link_code first) length

-- the link and the length of a word that is not closed; of a closed one they say nothing
abbrev pub link_of : ℕ → ℕ
link_of word = word % 1048576

abbrev pub length_of : ℕ → ℕ
length_of word = word / 1048576

-- the value fits, and this is its word
abbrev pub HasHeadWord : ℕ → HeadWord → Type 0
HasHeadWord word value = FitsHeadWord value × (packed_head value ≡ word)

-- the value has the numbers of the word
abbrev pub ReadsHead : ℕ → HeadWord → Type 0
ReadsHead word Closed = word ≡ closed_word
ReadsHead word (Listed first length) = (link_code first ≡ link_of word) × (length ≡ length_of word)

-- the words that are closed or have both numbers in their ranges
abbrev pub IsHeadWord : ℕ → Type 0
IsHeadWord word = (word ≡ closed_word) ⊎ (length_of word < 2 ^ 22)
