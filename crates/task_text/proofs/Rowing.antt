-- The lines of a text that have words.
use Rattle.std.proofs.Common.{◌≡◌, ℕ, ◌+◌, true, false, List, [], ◌∷◌, refl, ◌∙◌}
use Rattle.task_text.specs.Text.{Word, Row, code_of, words_of, lines_of, with_row}
use Rattle.task_text.specs.Cursor.{is_over, rows_behind}

with_row-none : (line : ℕ) (words : List Word) (rows : List Row) → is_over words ≡ true → with_row line words rows ≡ rows
with_row-none line [] rows h = refl
with_row-none line (word ∷ words) rows h = cc

with_row-some : (line : ℕ) (words : List Word) (rows : List Row) → is_over words ≡ false → with_row line words rows ≡ record { line = line; words = words } ∷ rows
with_row-some line [] rows h = cc
with_row-some line (word ∷ words) rows h = refl

rows-split : (passed : ℕ) (text line rest : List ℕ) → lines_of text ≡ line ∷ lines_of rest → rows_behind passed text ≡ with_row (passed + 1) (words_of (code_of line)) (rows_behind (passed + 1) rest)
rows-split passed text line rest e = rw e refl

-- a line without words is passed
pub rows-skip : (passed : ℕ) (text line rest : List ℕ) → lines_of text ≡ line ∷ lines_of rest → is_over (words_of (code_of line)) ≡ true → rows_behind passed text ≡ rows_behind (passed + 1) rest
rows-skip passed text line rest e h = rows-split passed text line rest e ∙ with_row-none (passed + 1) (words_of (code_of line)) (rows_behind (passed + 1) rest) h

pub rows-next : (passed : ℕ) (text line rest : List ℕ) → lines_of text ≡ line ∷ lines_of rest → is_over (words_of (code_of line)) ≡ false
    → rows_behind passed text ≡ record { line = passed + 1; words = words_of (code_of line) } ∷ rows_behind (passed + 1) rest
rows-next passed text line rest e h = rows-split passed text line rest e ∙ with_row-some (passed + 1) (words_of (code_of line)) (rows_behind (passed + 1) rest) h
