-- A superblock's word: its count in the lowest 16 bits, its class in 4, and above these how often it was reserved.
use Rattle.std.specs.Prelude.{◌≡◌, ℕ, ◌+◌, ◌*◌, ◌/◌, ◌%◌, ◌^◌, ◌<◌, ◌≤◌, min}
use Rattle.kt_words.specs.declared.super_word.SuperWord.{SuperWord}

-- the numbers that a word has room for
pub record FitsSuperWord (value : SuperWord) : Type 0 where
  pub count_fits : value.count < 2 ^ 16
  pub class_fits : value.class ≤ 3
  pub ever_fits : value.ever < 2 ^ 44

-- the word of three numbers
abbrev pub super_word : ℕ → ℕ → ℕ → ℕ
super_word count class ever = count + 65536 * class + 1048576 * ever

-- the word of a value
abbrev pub packed_super : SuperWord → ℕ
packed_super value = super_word value.count value.class value.ever

-- the greatest number of reservations that is told
abbrev pub most_ever : ℕ
most_ever = 17592186044415

-- how often a superblock was reserved, once more: it stands still at the greatest number
abbrev pub risen : ℕ → ℕ
risen ever = min (ever + 1) most_ever

-- the numbers of a word
abbrev pub count_of : ℕ → ℕ
count_of word = word % 65536

abbrev pub class_of : ℕ → ℕ
class_of word = word / 65536 % 16

abbrev pub ever_of : ℕ → ℕ
ever_of word = word / 1048576

-- a reservation: one more, of this class, and the last number risen
abbrev pub reserved_word : ℕ → ℕ → ℕ
reserved_word word class = super_word (count_of word + 1) class (risen (ever_of word))

-- the value fits, and this is its word
abbrev pub HasSuperWord : ℕ → SuperWord → Type 0
HasSuperWord word value = FitsSuperWord value × (packed_super value ≡ word)

-- the value has the numbers of the word
pub record ReadsSuper (word : ℕ) (value : SuperWord) : Type 0 where
  pub count_is : value.count ≡ count_of word
  pub class_is : value.class ≡ class_of word
  pub ever_is : value.ever ≡ ever_of word

-- the words of a superblock: the class is in its range; the two other numbers of a word of 64 bits always are
abbrev pub IsSuperWord : ℕ → Type 0
IsSuperWord word = class_of word ≤ 3
