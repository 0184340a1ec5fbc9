-- What the files of a command come to: a program, columns, or a reason to stop.
use Rattle.std.specs.Prelude.{◌≡◌, ℕ, Option, Some, None, List, Result, Ok, Err}
use Rattle.task_syntax.specs.Columns.{no_columns}
use Rattle.task_syntax.specs.Valid.{IsValid}
use Rattle.task_syntax.specs.declared.columns.Columns.{Columns}
use Rattle.task_syntax.specs.declared.program.Program.{Program}
use Rattle.task_text.specs.Fault.{number_of}
use Rattle.task_text.specs.declared.fault.Fault.{Fault}
use Rattle.task_reader.specs.Read.{program_in}
use Rattle.task_writer.specs.Text.{text_of}
use Rattle.task_check.specs.Faults.{TellsFirst}
use Rattle.column_input.specs.Records.{records_of}
use Rattle.column_input.specs.Reading.{columns_in, Fault as ColumnFault}
use Rattle.run_report.specs.CheckLines.{check_lines}
use Rattle.run_report.specs.Lines.{text_of as lines_text}
use Rattle.task_check.specs.declared.fault.CheckError.TheVariants as check_error
use Rattle.ktask_cli.specs.declared.stop.InputFile.TheVariants as file
use Rattle.ktask_cli.specs.declared.stop.Stop.{Stop}
use Rattle.ktask_cli.specs.declared.stop.Stop.TheVariants.{ProgramFault, CheckFault, ColumnsFault}
use Rattle.ktask_cli.specs.Plan.{Plan, content_of, judged, ◌>>=◌}

-- the program of a text, or its first fault
abbrev pub read_from : Result Program Fault → Result Program Stop
read_from (Ok program) = Ok program
read_from (Err fault) = Err (ProgramFault (number_of fault.cause) fault.line fault.word)

abbrev pub read_in : List ℕ → Result Program Stop
read_in text = read_from (program_in text)

-- a valid program as it is, or the first fault of one that is not valid
abbrev pub Checks : Program → Result Program Stop → Type 0
Checks program (Ok checked) = (checked ≡ program) × IsValid program
Checks program (Err (CheckFault cause line name)) = (¬ IsValid program) × TellsFirst program (check_error.Fault cause line name)
Checks program (Err _) = ⊥

-- the columns of a text, or their first fault
abbrev pub columns_from : Result Columns ColumnFault → Result Columns Stop
columns_from (Ok columns) = Ok columns
columns_from (Err fault) = Err (ColumnsFault fault.cause fault.row fault.column)

abbrev pub columns_read : List ℕ → Result Columns Stop
columns_read text = columns_from (columns_in (records_of text))

-- the program of a file is fetched and then read
abbrev pub program_under : List ℕ → Plan Program
program_under name = do
  text ← content_of file.Program name
  judged (λ result. result ≡ read_in text)

-- and then checked
abbrev pub valid_under : List ℕ → Plan Program
valid_under name = do
  program ← program_under name
  judged (Checks program)

-- the columns of a file are fetched and then read; there are none where no file is named
abbrev pub columns_under : Option (List ℕ) → Plan Columns
columns_under None = judged (λ result. result ≡ Ok no_columns)
columns_under (Some name) = do
  text ← content_of file.Columns name
  judged (λ result. result ≡ columns_read text)

-- what `run` runs: a valid program, and then columns
abbrev pub input_under : List ℕ → Option (List ℕ) → Plan (Program × Columns)
input_under name columns_name = do
  program ← valid_under name
  columns ← columns_under columns_name
  judged (λ result. result ≡ Ok (program, columns))

-- what `check` prints
abbrev pub kinds_under : List ℕ → Plan (List ℕ)
kinds_under name = do
  program ← valid_under name
  judged (λ result. result ≡ Ok (lines_text (check_lines program)))

-- what `print` prints, of a program that need not be valid
abbrev pub text_under : List ℕ → Plan (List ℕ)
text_under name = do
  program ← program_under name
  judged (λ result. result ≡ Ok (text_of program))
