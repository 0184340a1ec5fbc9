-- What the cursors over the words of a row and over the rows of a text show, and what they keep true.
use Rattle.std.specs.Prelude.{ℕ, ◌+◌, ◌^◌, ◌<◌, Bool, true, false, Option, Some, None, List, [], ◌∷◌, length}
use Rattle.task_text.specs.declared.words.Words.TheInside.{Inside}
use Rattle.task_text.specs.Text.{Word, Row, is_blank, lines_of, words_of, rows_from}
use Rattle.task_text.specs.Scan.{Scan, start_of}

abbrev pub begins_with_blank : List ℕ → Bool
begins_with_blank [] = false
begins_with_blank (byte ∷ bytes) = is_blank byte

-- a word and those of the bytes behind it; behind no word there is none
abbrev pub words_from : Word → List ℕ → List Word
words_from [] rest = []
words_from (byte ∷ bytes) rest = (byte ∷ bytes) ∷ words_of rest

abbrev pub scan_of : Inside → Scan
scan_of c = record { line = c.line; word = c.word; left = words_from c.front.now c.rest.now }

-- the number of each word that is left, and the number behind the last, fit 32 bits
abbrev pub IsCounted : Inside → Type 0
IsCounted c = c.word + length (words_from c.front.now c.rest.now) < 2 ^ 32

-- no word is left
abbrev pub is_over : List Word → Bool
is_over [] = true
is_over (word ∷ words) = false

-- the rows of the lines behind those that are passed
abbrev pub rows_behind : ℕ → List ℕ → List Row
rows_behind passed text = rows_from (passed + 1) (lines_of text)

-- before the first word of the first row, where there is a row
abbrev pub first_start : List Row → Option Scan
first_start [] = None
first_start (row ∷ rows) = Some (start_of row)
