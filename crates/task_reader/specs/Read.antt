-- The program that a text is, or its first fault.
use Rattle.std.specs.Prelude.{◌≡◌, ℕ, List, Result, Ok, Err}
use Rattle.task_lines.specs.Grammar.{RowsSpell}
use Rattle.task_lines.specs.Reading.{items_of}
use Rattle.task_lines.specs.Scope.{first_scope}
use Rattle.task_lines.specs.declared.item.Item.{Item}
use Rattle.task_reader.specs.declared.error.ReadError.{ReadError}
use Rattle.task_syntax.specs.declared.program.Program.{Program}
use Rattle.task_text.specs.Fault.{number_of, ◌>>=◌, ◌>>◌}
use Rattle.task_text.specs.Text.{rows_of}
use Rattle.task_text.specs.declared.fault.Fault.{Fault}
use Rattle.task_text.specs.declared.fault.TextError.{TextError}
use Rattle.task_reader.specs.Names.{names_known}
use Rattle.task_reader.specs.Program.{program_of}

-- the program of the items, where each name that they use is given
unfoldable pub program_from : List Item → Result Program Fault
program_from items = do
  names_known items first_scope items
  Ok (program_of items)

-- names are looked up only where nothing else is at fault
unfoldable pub program_in : List ℕ → Result Program Fault
program_in text = do
  items ← items_of text
  names_known items first_scope items
  Ok (program_of items)

-- the items are what the lines of the text spell, and each name that they use is given
abbrev pub IsTextOf : List ℕ → List Item → Type 0
IsTextOf text items = RowsSpell (rows_of text) items × (names_known items first_scope items ≡ Ok tt)

-- some items of the text stand for the program
abbrev pub Spelled : List ℕ → Program → Type 0
Spelled text p = (items : List Item) × IsTextOf text items × (p ≡ program_of items)

-- the outcome is what the reading gives, with a fault by its number, or want of memory
abbrev pub GivesProgram : Result Program ReadError → Result Program Fault → Type 0
GivesProgram (Ok p) reading = reading ≡ Ok p
GivesProgram (Err (ReadError.Fault cause line word)) reading =
    (fault : Fault) × (reading ≡ Err fault) × (cause ≡ number_of fault.cause) × (line ≡ fault.line) × (word ≡ fault.word)
GivesProgram (Err ReadError.Memory) reading = Unit {0}

-- the error that tells the fault
abbrev pub error_of : TextError → ReadError
error_of (TextError.Fault fault) = ReadError.Fault (number_of fault.cause) fault.line fault.word
error_of TextError.Memory = ReadError.Memory

-- the program is answered, unless memory fails
abbrev pub Answers : Program → Result Program ReadError → Type 0
Answers p (Ok q) = q ≡ p
Answers p (Err (ReadError.Fault cause line word)) = ⊥
Answers p (Err ReadError.Memory) = Unit {0}
