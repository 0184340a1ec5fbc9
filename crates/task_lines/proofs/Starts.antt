-- The rows of a text, and how they start.
use Rattle.task_lines.proofs.Vocabulary.{◌≡◌, ℕ, ◌+◌, ◌≤◌, suc, Bool, true, false, if◌then◌else◌, ◌==◌, List, [], ◌∷◌, length, drop, nat_eq, ap, sym, arith, starts_with, length-drop, Word, Row, in_front, lines_of, words_of, code_of, with_row, rows_from, without_mark, rows_of, Scan, start_of}

-- the scan of a row of which no word is taken yet
pub from_start : (s : Scan) → s.word ≡ 1 → start_of (record { line = s.line; words = s.left }) ≡ s
from_start s e = ap (λ n. record { line = s.line; word = n; left = s.left }) (sym e)

in_front_short : (byte : ℕ) (lines : List (List ℕ)) (n : ℕ) → length lines ≤ n → length (in_front byte lines) ≤ suc n
in_front_short byte [] n h = omega arith
in_front_short byte (first ∷ rest) n h = omega arith

lines_short : (bytes : List ℕ) → length (lines_of bytes) ≤ length bytes
lines_short [] = omega arith
lines_short (byte ∷ bytes) = by (byte == 10) (lines_short bytes) where
  by : (b : Bool) → length (lines_of bytes) ≤ length bytes
      → length (if b then [] ∷ lines_of bytes else in_front byte (lines_of bytes)) ≤ length (byte ∷ bytes)
  by true h = omega arith
  by false h = in_front_short byte (lines_of bytes) (length bytes) h

with_row_short : (line : ℕ) (words : List Word) (rows : List Row) (n : ℕ) → length rows ≤ n → length (with_row line words rows) ≤ suc n
with_row_short line [] rows n h = omega arith
with_row_short line (word ∷ words) rows n h = omega arith

rows_from_short : (line : ℕ) (lines : List (List ℕ)) → length (rows_from line lines) ≤ length lines
rows_from_short line [] = omega arith
rows_from_short line (first ∷ rest) = with_row_short line (words_of (code_of first)) (rows_from (line + 1) rest) (length rest) (rows_from_short (line + 1) rest)

unmarked_short : (b : Bool) (text : List ℕ) → length (if b then drop 3 text else text) ≤ length text
unmarked_short true text = omega (arith, length-drop 3 text)
unmarked_short false text = omega arith

-- a text has no more rows than bytes
pub rows_short : (text : List ℕ) → length (rows_of text) ≤ length text
rows_short text = omega (arith, rows_from_short 1 (lines_of (without_mark text)), lines_short (without_mark text), unmarked_short (starts_with nat_eq text (239 ∷ 187 ∷ 191 ∷ [])) text)

-- nor are there more behind the first
pub few_rows : (text : List ℕ) → length (drop 1 (rows_of text)) ≤ length text
few_rows text = omega (arith, length-drop 1 (rows_of text), rows_short text)
