-- Laws of the class that holds so many words.
use Rattle.std.specs.Prelude.{◌≡◌, ℕ, ◌≤◌}
use Rattle.kt_words.specs.Capacity.{block_words, class_for, IsLeastClass}

-- the blocks of the four classes have 8, 16, 32 and 64 words
abbrev pub BlocksHaveWords : Type 0
BlocksHaveWords = (block_words 0 ≡ 8) × (block_words 1 ≡ 16) × (block_words 2 ≡ 32) × (block_words 3 ≡ 64)

-- up to 64 words, the class is the least whose blocks hold so many
abbrev pub ClassIsLeast : Type 0
ClassIsLeast = (words : ℕ) → words ≤ 64 → IsLeastClass words (class_for words)

-- it is one of the four, also for more words
abbrev pub ClassIsOneOfFour : Type 0
ClassIsOneOfFour = (words : ℕ) → class_for words ≤ 3

-- more words never have a smaller class
abbrev pub ClassRises : Type 0
ClassRises = (words more : ℕ) → words ≤ more → class_for words ≤ class_for more
