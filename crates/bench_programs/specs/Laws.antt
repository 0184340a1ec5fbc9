-- What holds of the program of each family for each number.
use Rattle.std.specs.Prelude.{◌≡◌, ℕ, ◌<◌, ◌≤◌, ◌^◌, List, length, Ok}
use Rattle.task_syntax.specs.Form.{IsWellFormed}
use Rattle.task_syntax.specs.Valid.{IsValid}
use Rattle.task_syntax.specs.declared.program.Program.{Program}
use Rattle.task_reader.specs.Read.{program_in}
use Rattle.task_writer.specs.Text.{text_of}
use Rattle.task_check.specs.declared.fault.Found.{Found}
use Rattle.task_check.specs.Faults.{HasFault}
use Rattle.bench_programs.specs.declared.family.Family.{Family}
use Rattle.bench_programs.specs.Programs.{family_program}

-- for a number that fits 64 bits the program is well formed
abbrev pub EachIsWellFormed : Type 0
EachIsWellFormed = (family : Family) (n : ℕ) → n < 2 ^ 64 → IsWellFormed (family_program family n)

-- it is valid, so that a checker has nothing to tell
abbrev pub EachIsValid : Type 0
EachIsValid = (family : Family) (n : ℕ) → IsValid (family_program family n)

abbrev pub EachIsFaultless : Type 0
EachIsFaultless = (family : Family) (n : ℕ) → n < 2 ^ 64 → (f : Found) → ¬ HasFault (family_program family n) f

-- the text is read as the program
abbrev pub ReadsAs : List ℕ → Program → Type 0
ReadsAs text p = program_in text ≡ Ok p

-- its text is read as that very program, with the same line numbers
abbrev pub EachReadsBack : Type 0
EachReadsBack = (family : Family) (n : ℕ) → n < 2 ^ 64 → ReadsAs (text_of (family_program family n)) (family_program family n)

-- and has at most 400 bytes
abbrev pub EachTextFits : Type 0
EachTextFits = (family : Family) (n : ℕ) → n < 2 ^ 64 → length (text_of (family_program family n)) ≤ 400
