-- When each exit status comes. Want of memory, 9, may come in the place of any of them but those of a run.
use Rattle.std.specs.Prelude.{◌≡◌, ℕ, ◌⊎◌, ◌↔◌, List, Option, Some, None, Ok, Err, IsOk, IsOkAnd, IsSome, IsSomeAnd, IfSome, option_and_then}
use Rattle.task_syntax.specs.Valid.{IsValid}
use Rattle.task_syntax.specs.declared.program.Program.{Program}
use Rattle.task_reader.specs.Read.{program_in}
use Rattle.column_input.specs.Records.{records_of}
use Rattle.column_input.specs.Reading.{columns_in}
use Rattle.record_core.specs.EndSeen.{EndSeen, RunPlan}
use Rattle.tool_words.specs.Choice.{Choice}
use Rattle.tool_words.specs.Choice as choice
use Rattle.tool_io.specs.declared.fetch_error.FetchError.TheVariants.{Failed, TooLong}
use Rattle.tool_io.specs.Count.{Rose}
use Rattle.ktask_cli.specs.Outcome.{Answer}
use Rattle.ktask_cli.specs.Order.{Order, IsRunOf, bench_plan, order_text}
use Rattle.ktask_cli.specs.RunStatus.{IsStatusOf}
use Rattle.tool_io.specs.Seen.{ShelfSeen, Holds, HoldsMore}
use Rattle.tool_io.specs.Sink.{Adds}
use Rattle.ktask_cli.specs.Stop.{longest_file}

-- what is done with a program
pub data Command : Type 0 where
  Run : Command
  Check : Command
  Print : Command

-- what is asked of the shelf: what is done with the program, and the names of its file and of the columns'
abbrev pub Asked : Type 0
Asked = Command × List ℕ × Option (List ℕ)

-- what a choice asks of the shelf; nothing for `bench` and `help`
abbrev pub asked_by : Choice → Option Asked
asked_by (choice.Run run) = Some (Run, run.program, run.columns)
asked_by (choice.Plain run) = Some (Run, run.program, run.columns)
asked_by (choice.Check name) = Some (Check, name, None)
asked_by (choice.Print name) = Some (Print, name, None)
asked_by (choice.Bench bench) = None
asked_by choice.Help = None

-- the command takes a program: a run and `check` take a valid one, `print` each
abbrev pub Suits : Command → Program → Type 0
Suits Run program = IsValid program
Suits Check program = IsValid program
Suits Print program = Unit {0}

-- the text is a program that the command takes
abbrev pub SuitsText : Command → List ℕ → Type 0
SuitsText command text = IsOkAnd (program_in text) (Suits command)

-- the text has columns
abbrev pub HasColumns : List ℕ → Type 0
HasColumns text = IsOk (columns_in (records_of text))

-- the last fetch gave its content, or was refused
abbrev pub IsFetched : ShelfSeen → Type 0
IsFetched shelf = shelf.last ≡ Some (Ok tt)

abbrev pub IsRefused : ShelfSeen → Type 0
IsRefused shelf = (shelf.last ≡ Some (Err Failed)) ⊎ (shelf.last ≡ Some (Err TooLong))

-- this status, or want of memory
abbrev pub IsOrWants : ℕ → Answer → Type 0
IsOrWants status a = (a.status ≡ status) ⊎ (a.status ≡ 9)

-- 2 only where the words are refused, and they are refused by it or for want of memory
abbrev pub TwoForWords : Option Choice → Answer → Type 0
TwoForWords chosen a = (a.status ≡ 2 → chosen ≡ None) × (chosen ≡ None → IsOrWants 2 a)

-- 5 exactly where the program was fetched and its text does not suit the command
abbrev pub FiveForText : Option Asked → ShelfSeen → ShelfSeen → Answer → Type 0
FiveForText None was is a = ¬ (a.status ≡ 5)
FiveForText (Some (command, name, columns)) was is a =
    (a.status ≡ 5 → IsFetched is × ((text : List ℕ) × Holds was name text × ¬ SuitsText command text))
    × (IsFetched is → IfSome (was.holds name) (λ held. ¬ SuitsText command held → IsOrWants 5 a))

-- 6 exactly where a run's program suits it, the columns were fetched, and they are refused
abbrev pub SixForColumns : Option Asked → ShelfSeen → ShelfSeen → Answer → Type 0
SixForColumns None was is a = ¬ (a.status ≡ 6)
SixForColumns (Some (command, name, None)) was is a = ¬ (a.status ≡ 6)
SixForColumns (Some (command, name, Some columns)) was is a =
    (a.status ≡ 6 → (command ≡ Run) × IsFetched is
    × ((program : List ℕ) × Holds was name program × SuitsText command program)
    × ((text : List ℕ) × Holds was columns text × ¬ HasColumns text))
    × (command ≡ Run → IsFetched is → IfSome (was.holds name) (λ program. SuitsText command program → IfSome (was.holds columns) (λ held. ¬ HasColumns held → IsOrWants 6 a)))

-- the shelf holds a longer file than is read under this name, where it tells what it holds
abbrev pub IsLong : ShelfSeen → List ℕ → Type 0
IsLong shelf name = HoldsMore shelf name longest_file

-- 7 exactly where a fetch was refused: the shelf had a fault, or a file that is named is too long; which of them, `Does` says
abbrev pub SevenForFetch : Option Asked → ShelfSeen → ShelfSeen → Answer → Type 0
SevenForFetch None was is a = ¬ (a.status ≡ 7)
SevenForFetch (Some (command, name, columns)) was is a =
    (a.status ≡ 7 → IsRefused is × (Rose was.faults is.faults ⊎ (IsLong was name ⊎ IsSomeAnd columns (IsLong was))))
    × (IsRefused is → IsOrWants 7 a)

-- 8 only where `out` had a fault
abbrev pub EightForOut : Answer → Type 0
EightForOut a = a.status ≡ 8 → Rose a.out_was.faults a.out_is.faults

-- 0 for a command other than a run whose text suits it, where `out` had no fault
abbrev pub ZeroForPrinted : Option Asked → ShelfSeen → ShelfSeen → Answer → Type 0
ZeroForPrinted None was is a = Unit {0}
ZeroForPrinted (Some (command, name, columns)) was is a = ¬ (command ≡ Run) → IsFetched is
    → IfSome (was.holds name) (λ held. SuitsText command held → (¬ Rose a.out_was.faults a.out_is.faults) → IsOrWants 0 a)

-- the shelf tells columns under the name, where one is given
abbrev pub HoldsColumns : ShelfSeen → Option (List ℕ) → Type 0
HoldsColumns shelf None = Unit {0}
HoldsColumns shelf (Some name) = IsSomeAnd (shelf.holds name) HasColumns

-- `out` took nothing at 2, 5, 6, 7 and 9
abbrev pub QuietWhereRefused : Answer → Type 0
QuietWhereRefused a = (a.status ≡ 2) ⊎ ((a.status ≡ 5) ⊎ ((a.status ≡ 6) ⊎ ((a.status ≡ 7) ⊎ (a.status ≡ 9)))) → a.out_is ≡ a.out_was

-- the statuses that come for a run alone
abbrev pub IsOfRunAlone : ℕ → Type 0
IsOfRunAlone status = (status ≡ 1) ⊎ ((status ≡ 3) ⊎ (status ≡ 4))

-- the statuses of a command whose text was taken
abbrev pub IsDone : ℕ → Type 0
IsDone status = (status ≡ 0) ⊎ IsOfRunAlone status

-- a run is reached for a text that suits it, and columns: its text was taken, or `out` had a fault
abbrev pub RunForSuited : Option Asked → ShelfSeen → ShelfSeen → Answer → Type 0
RunForSuited None was is a = Unit {0}
RunForSuited (Some (command, name, columns)) was is a = command ≡ Run → IsFetched is
    → IfSome (was.holds name) (λ held. SuitsText command held → HoldsColumns was columns → (IsDone a.status ⊎ (a.status ≡ 8)) ⊎ (a.status ≡ 9))

-- `err` took nothing there
abbrev pub SilentWhereDone : Answer → Type 0
SilentWhereDone a = IsDone a.status → a.err_is ≡ a.err_was

-- the choice is a run
abbrev pub IsRun : Option Choice → Type 0
IsRun (Some (choice.Run run)) = Unit {0}
IsRun (Some (choice.Bench bench)) = Unit {0}
IsRun (Some (choice.Plain run)) = Unit {0}
IsRun _ = ⊥

-- the choice is a run whose end is answered
abbrev pub IsAnswered : Option Choice → Type 0
IsAnswered (Some (choice.Run run)) = Unit {0}
IsAnswered (Some (choice.Bench bench)) = Unit {0}
IsAnswered _ = ⊥

-- The end of a run is answered exactly where `run` or `bench` is asked for and the text was taken, or `out` had a fault. 1, 3 and 4
-- come only for a run.
abbrev pub RunsAtStatus : Option Choice → Answer → Type 0
RunsAtStatus chosen a = (IsSome a.finished ↔ (IsAnswered chosen × (IsDone a.status ⊎ (a.status ≡ 8)))) × (IsOfRunAlone a.status → IsRun chosen)

-- a run under the plan came to an end that the status tells, and `out` took its report
pub record ToldBy (plan : RunPlan) (a : Answer) : Type 0 where
  pub order : Order
  pub same_plan : order.plan ≡ plan
  pub end : EndSeen
  pub run : IsRunOf order end
  pub status : IsStatusOf plan.limit end a.status
  pub report : Adds a.out_was a.out_is (order_text order end)

-- the status of a run says what its end is: the one that is answered, or with `plain` the one that is reported
abbrev pub EndsByStatus : Option Choice → Answer → Type 0
EndsByStatus (Some (choice.Run run)) a = IfSome a.finished (λ e. IsStatusOf run.plan.limit e a.status)
EndsByStatus (Some (choice.Bench bench)) a = IfSome a.finished (λ e. IsStatusOf bench_plan.limit e a.status)
EndsByStatus (Some (choice.Plain run)) a = IsDone a.status → ToldBy run.plan a
EndsByStatus _ a = Unit {0}

-- what needs no file is done: 0 for `help`, where `out` had no fault, and a run for `bench`
abbrev pub DoneUnasked : Option Choice → Answer → Type 0
DoneUnasked (Some choice.Help) a = (¬ Rose a.out_was.faults a.out_is.faults) → IsOrWants 0 a
DoneUnasked (Some (choice.Bench bench)) a = IsSome a.finished ⊎ (a.status ≡ 9)
DoneUnasked _ a = Unit {0}

-- each status of an answer comes for its causes
pub record StatusHasCause (chosen : Option Choice) (was is : ShelfSeen) (a : Answer) : Type 0 where
  pub ends : EndsByStatus chosen a
  pub runs : RunsAtStatus chosen a
  pub zero_printed : ZeroForPrinted (option_and_then asked_by chosen) was is a
  pub done_unasked : DoneUnasked chosen a
  pub run_suited : RunForSuited (option_and_then asked_by chosen) was is a
  pub two : TwoForWords chosen a
  pub five : FiveForText (option_and_then asked_by chosen) was is a
  pub six : SixForColumns (option_and_then asked_by chosen) was is a
  pub seven : SevenForFetch (option_and_then asked_by chosen) was is a
  pub eight : EightForOut a
  pub quiet : QuietWhereRefused a
  pub silent : SilentWhereDone a
