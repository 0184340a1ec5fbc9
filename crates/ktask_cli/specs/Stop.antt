-- The reasons to stop: the exit status and the line of each.
use Rattle.std.specs.Prelude.{ℕ, Option, unwrap_or, List, [], ◌∷◌, ◌++◌, codes, decimal, ◌==◌, if◌then◌else◌}
use Rattle.task_check.specs.declared.fault.Cause.{Cause}
use Rattle.task_check.specs.Causes.{code_of, word_of, names_future}
use Rattle.column_input.specs.Causes.{code_of as column_code, word_of as column_word}
use Rattle.ktask_cli.specs.declared.stop.InputFile.{InputFile}
use Rattle.ktask_cli.specs.declared.stop.InputFile.TheVariants as file
use Rattle.ktask_cli.specs.declared.stop.Stop.{Stop}
use Rattle.ktask_cli.specs.declared.stop.Stop.TheVariants.{WordsRefused, CannotRead, TooLong, ProgramFault, CheckFault, ColumnsFault, WriteFault, WantOfMemory}
use Rattle.tool_io.specs.declared.fetch_error.FetchError.{FetchError}
use Rattle.tool_io.specs.declared.fetch_error.FetchError.TheVariants as fetch

abbrev pub status_of : Stop → ℕ
status_of WordsRefused = 2
status_of (ProgramFault cause line word) = 5
status_of (CheckFault cause line name) = 5
status_of (ColumnsFault cause row column) = 6
status_of (CannotRead which) = 7
status_of (TooLong which) = 7
status_of WriteFault = 8
status_of WantOfMemory = 9

-- the text and a line end
abbrev pub ended : List ℕ → List ℕ
ended text = text ++ 10 ∷ []

-- the name of a cause for which a text is no program
abbrev pub cause_name : ℕ → List ℕ
cause_name cause =
    if cause == 1 then codes "NotText" else (
    if cause == 2 then codes "NoHeader" else (
    if cause == 3 then codes "UnknownWord" else (
    if cause == 4 then codes "BadName" else (
    if cause == 5 then codes "BadNumber" else (
    if cause == 6 then codes "TwiceNamed" else (
    if cause == 7 then codes "UnknownName" else (
    if cause == 8 then codes "TooMany" else (
    if cause == 9 then codes "NoEnd" else (
    if cause == 10 then codes "BackLabel" else codes "WordsLeft")))))))))

-- the greatest length of a file that is read
abbrev pub longest_file : ℕ
longest_file = 16777216

-- the name of a future is printed with an `@`
abbrev pub printed_name : Cause → List ℕ → List ℕ
printed_name cause name = if names_future cause then codes "@" ++ name else name

-- what is said of the reason, where `name` is the file's
abbrev pub line_of : List ℕ → Stop → List ℕ
line_of name WordsRefused = ended (codes "ktask: words refused, see ktask help")
line_of name (ProgramFault cause line word) =
    ended (codes "ktask: program line " ++ decimal line ++ codes " word " ++ decimal word ++ codes " cause " ++ decimal cause ++ codes " " ++ cause_name cause)
line_of name (CheckFault cause line named) =
    ended (codes "ktask: program line " ++ decimal line ++ codes " check " ++ decimal (code_of cause) ++ codes " " ++ word_of cause ++ codes " " ++ printed_name cause named)
line_of name (ColumnsFault cause row column) =
    ended (codes "ktask: columns row " ++ decimal row ++ codes " column " ++ decimal column ++ codes " cause " ++ decimal (column_code cause) ++ codes " " ++ column_word cause)
line_of name (CannotRead which) = ended (codes "ktask: cannot read " ++ name)
line_of name (TooLong which) = ended (codes "ktask: " ++ name ++ codes " is longer than " ++ decimal longest_file ++ codes " bytes")
line_of name WriteFault = ended (codes "ktask: write fault")
line_of name WantOfMemory = ended (codes "ktask: want of memory")

-- why a refused fetch of this file stops the command
abbrev pub fetch_stop : InputFile → FetchError → Stop
fetch_stop which fetch.Failed = CannotRead which
fetch_stop which fetch.TooLong = TooLong which
fetch_stop which fetch.Memory = WantOfMemory

-- the name of a file of a run
abbrev pub file_named : List ℕ → Option (List ℕ) → InputFile → List ℕ
file_named program columns file.Program = program
file_named program columns file.Columns = unwrap_or columns []

-- the name that is told with the reason why a run stops
abbrev pub named_for : List ℕ → Option (List ℕ) → Stop → List ℕ
named_for program columns (CannotRead which) = file_named program columns which
named_for program columns (TooLong which) = file_named program columns which
named_for program columns _ = program
