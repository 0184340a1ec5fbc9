-- The canonical text of a program: the header and its lines.
use Rattle.std.specs.List.{flat_map}
use Rattle.std.specs.Prelude.{ℕ, List, [], ◌∷◌, ◌++◌, codes}
use Rattle.task_lines.specs.declared.item.What.{What}
use Rattle.task_syntax.specs.declared.program.Program.{Program}
use Rattle.task_text.specs.Text.{Word}
use Rattle.task_writer.specs.Words.{line_words}
use Rattle.task_writer.specs.Lines.{lines_of_program}

-- the words behind the first of a line, each behind a space
unfoldable pub spaced : List Word → List ℕ
spaced words = flat_map (λ word. 32 ∷ word) words

-- the words, parted by one space
unfoldable pub parted : List Word → List ℕ
parted [] = []
parted (word ∷ words) = word ++ spaced words

-- the words of a line, and the line feed
unfoldable pub line_text : List Word → List ℕ
line_text words = parted words ++ 10 ∷ []

abbrev pub header_words : List Word
header_words = codes "ktask" ∷ codes "1" ∷ []

unfoldable pub text_of_lines : List What → List ℕ
text_of_lines lines = flat_map (λ line. line_text (line_words line)) lines

unfoldable pub text_of : Program → List ℕ
text_of p = line_text header_words ++ text_of_lines (lines_of_program p)
