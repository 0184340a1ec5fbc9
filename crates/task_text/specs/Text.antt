-- A text as rows: the lines that have words, each with its number.
use Rattle.std.specs.Prelude.{ℕ, ◌+◌, Bool, false, not, ◌||◌, if◌then◌else◌, ◌==◌, nat_eq, List, [], ◌∷◌, drop, take_while}
use Rattle.std.specs.List.{starts_with}

-- a word is the list of its bytes
abbrev pub Word : Type 0
Word = List ℕ

-- space, tab and carriage return, which part words
abbrev pub is_blank : ℕ → Bool
is_blank byte = byte == 32 || byte == 9 || byte == 13

-- the byte in front of the first of the lists
abbrev pub in_front : ℕ → List (List ℕ) → List (List ℕ)
in_front byte [] = (byte ∷ []) ∷ []
in_front byte (first ∷ rest) = (byte ∷ first) ∷ rest

-- the lines, each ended by a line feed, which the last may lack
abbrev pub lines_of : List ℕ → List (List ℕ)
lines_of [] = []
lines_of (byte ∷ bytes) = if byte == 10 then [] ∷ lines_of bytes else in_front byte (lines_of bytes)

-- a line up to its comment, which begins with a number sign
abbrev pub code_of : List ℕ → List ℕ
code_of line = take_while (λ byte. not (byte == 35)) line

abbrev pub begins_with_word : List ℕ → Bool
begins_with_word [] = false
begins_with_word (byte ∷ bytes) = not (is_blank byte)

-- the words, which are the longest runs of bytes that are no blanks
abbrev pub words_of : List ℕ → List Word
words_of [] = []
words_of (byte ∷ bytes) =
    if is_blank byte then words_of bytes else (if begins_with_word bytes then in_front byte (words_of bytes) else (byte ∷ []) ∷ words_of bytes)

-- the number of a line, and its words
pub record Row : Type 0 where
  pub line : ℕ
  pub words : List Word

-- the rows, with a row for the words of a line if it has any
abbrev pub with_row : ℕ → List Word → List Row → List Row
with_row line [] rows = rows
with_row line (word ∷ words) rows = record { line = line; words = word ∷ words } ∷ rows

-- the rows of the lines, which are numbered from a line on
abbrev pub rows_from : ℕ → List (List ℕ) → List Row
rows_from line [] = []
rows_from line (first ∷ rest) = with_row line (words_of (code_of first)) (rows_from (line + 1) rest)

-- the text without the byte order mark, if it begins with one
abbrev pub without_mark : List ℕ → List ℕ
without_mark text = if starts_with nat_eq text (239 ∷ 187 ∷ 191 ∷ []) then drop 3 text else text

abbrev pub rows_of : List ℕ → List Row
rows_of text = rows_from 1 (lines_of (without_mark text))
