-- What holds of canonical texts and their programs.
use Rattle.std.specs.Prelude.{◌≡◌, ℕ, List, Ok}
use Rattle.task_reader.specs.Read.{program_in}
use Rattle.task_syntax.specs.Form.{IsWellFormed}
use Rattle.task_syntax.specs.declared.program.Program.{Program}
use Rattle.task_writer.specs.Text.{text_of}
use Rattle.task_writer.specs.Numbering.{renumbered}
use Rattle.task_writer.specs.Same.{AreSameButLines}
use Rattle.task_writer.specs.Canonical.{IsCanonical}

-- reading the text gives the program, with the numbers of the lines of the text
abbrev pub ReadsBack : Type 0
ReadsBack = (p : Program) → IsWellFormed p → program_in (text_of p) ≡ Ok (renumbered p)

-- nothing but the line numbers is changed
abbrev pub KeepsTheRest : Type 0
KeepsTheRest = (p : Program) → AreSameButLines (renumbered p) p

-- the line numbers are not printed
abbrev pub PrintsTheSame : Type 0
PrintsTheSame = (p : Program) → text_of (renumbered p) ≡ text_of p

-- what is read from a canonical text is printed as that very text: a program has one canonical text
abbrev pub PrintsWhatItRead : Type 0
PrintsWhatItRead = (text : List ℕ) (p : Program) → IsCanonical text → program_in text ≡ Ok p → text_of p ≡ text

-- no blank is doubled, nothing is written that need not be, and all stands in its order
abbrev pub PrintsCanonically : Type 0
PrintsCanonically = (p : Program) → IsWellFormed p → IsCanonical (text_of p)
