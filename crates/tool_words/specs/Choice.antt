-- Which words are accepted, and what they choose.
use Rattle.std.specs.Prelude.{◌≡◌, ℕ, Result, Ok, Err, Bool, false, ◌&&◌, ◌==◌, nat_le, List, [], ◌∷◌, Option, Some, None, is_some, unwrap_or, option_map, option_and_then, option_copied, if◌then◌else◌, codes, bytes_eq}
use Rattle.std.specs.List.{list_any}
use Rattle.std.specs.Option.{option_map_or}
use Rattle.std.specs.Str.Parse.{digits_value}
use Rattle.clap.specs.Walk.{Row, Text, first_of}
use Rattle.clap.specs.Simple.{App, matches_of}
use Rattle.clap.specs.Faults.{fault_of}
use Rattle.clap.specs.Kinds.{Kinds}
use Rattle.bench_programs.specs.Family.{family_of, greatest_of}
use Rattle.bench_programs.specs.declared.family.Family.{Family}
use Rattle.task_syntax.specs.Names.{is_between}
use Rattle.task_text.specs.Scan.{is_number}
use Rattle.record_core.specs.EndSeen.{RunPlan, plan_of}
use Rattle.tool_words.specs.Commands.{run_app, bench_app, plain_app, program_app, help_app}
use Rattle.tool_words.specs.declared.choice.BenchWords.{BenchWords}
use Rattle.tool_words.specs.declared.choice.RunWords.{RunWords as RunWordsSeen}
use Rattle.tool_words.specs.declared.choice.Choice.{Choice as ChoiceSeen}
use Rattle.tool_words.specs.declared.choice.Choice.TheVariants as seen
use Rattle.tool_words.specs.declared.words_error.WordsError.{WordsError}
use Rattle.tool_words.specs.declared.words_error.WordsError.TheVariants.{Refused, Memory}

-- the names of the program's file and of the columns', how many threads are to work, the plan of the run, and whether its
-- trace is reported
pub record RunWords : Type 0 where
  pub program : Text
  pub columns : Option Text
  pub workers : ℕ
  pub plan : RunPlan
  pub trace : Bool

pub data Choice : Type 0 where
  Run : RunWords → Choice
  Bench : BenchWords → Choice
  Plain : RunWords → Choice
  Check : Text → Choice
  Print : Text → Choice
  Help : Choice

-- ---- numbers

-- the number that a word is: 1 to 20 digits, with a value of 64 bits
abbrev pub number_in : Text → Option ℕ
number_in word = if is_number word then Some (digits_value 10 word) else None

-- the number of an option: that of its word, and where it is not given the default
abbrev pub number_at : List Row → Text → ℕ → Option ℕ
number_at rows name default = option_map_or number_in (first_of name rows) (Some default)

-- an option has a number, and it is from the least to the greatest
abbrev pub is_in_range : ℕ → ℕ → Option ℕ → Bool
is_in_range least greatest number = option_map_or (is_between least greatest) number false

-- the numbers of units that a superblock may have
abbrev pub unit_counts : List ℕ
unit_counts = 8 ∷ 16 ∷ 32 ∷ 64 ∷ 128 ∷ 256 ∷ 512 ∷ []

abbrev pub is_unit_count : Option ℕ → Bool
is_unit_count number = option_map_or (λ n. list_any (λ count. count == n) unit_counts) number false

-- ---- the options of a run, each with its default

abbrev pub workers_in : List Row → Option ℕ
workers_in rows = number_at rows (codes "workers") 4

abbrev pub superblocks_in : List Row → Option ℕ
superblocks_in rows = number_at rows (codes "superblocks") 256

abbrev pub units_in : List Row → Option ℕ
units_in rows = number_at rows (codes "units") 512

abbrev pub limit_in : List Row → Option ℕ
limit_in rows = number_at rows (codes "limit") 1000000

-- each number of a plan is there, and in its range
abbrev pub fit_plan : Option ℕ → Option ℕ → Option ℕ → Bool
fit_plan superblocks units limit =
    is_in_range 1 1024 superblocks && (is_unit_count units && is_in_range 1 4000000 limit)

abbrev pub plan_with : Option ℕ → Option ℕ → Option ℕ → RunPlan
plan_with superblocks units limit =
    record { superblocks = unwrap_or superblocks 0; units = unwrap_or units 0; limit = unwrap_or limit 0 }

abbrev pub has_plan : List Row → Bool
has_plan rows = fit_plan (superblocks_in rows) (units_in rows) (limit_in rows)

abbrev pub plan_in : List Row → RunPlan
plan_in rows = plan_with (superblocks_in rows) (units_in rows) (limit_in rows)

-- the flag is given
abbrev pub has_flag : List Row → Text → Bool
has_flag rows name = option_map_or (λ word. bytes_eq word (codes "true")) (first_of name rows) false

-- ---- the words of a command

-- what `clap` makes of words, where it finds no fault in them
abbrev pub rows_without : Kinds → List Row → Option (List Row)
rows_without [] rows = Some rows
rows_without (kind ∷ kinds) rows = None

abbrev pub rows_by : App → List Text → Option (List Row)
rows_by app words = rows_without (fault_of app words) (matches_of app words)

-- a program is named, and each number is in its range
abbrev pub has_run : List Row → Bool
has_run rows = is_some (first_of (codes "program") rows) && (is_in_range 1 64 (workers_in rows) && has_plan rows)

abbrev pub run_in : List Row → RunWords
run_in rows = record {
  program = unwrap_or (first_of (codes "program") rows) [];
  columns = first_of (codes "columns") rows;
  workers = unwrap_or (workers_in rows) 0;
  plan = plan_in rows;
  trace = has_flag rows (codes "trace");
}

-- the run that the words of a command choose
abbrev pub run_by : App → List Text → Option RunWords
run_by app words = option_and_then (λ rows. if has_run rows then Some (run_in rows) else None) (rows_by app words)

-- the family that is named, and the number of the program in it
abbrev pub family_in : List Row → Option Family
family_in rows = option_and_then family_of (first_of (codes "family") rows)

abbrev pub size_in : List Row → Option ℕ
size_in rows = option_and_then number_in (first_of (codes "number") rows)

-- the number is at most the greatest of the family, and that of the threads is in its range
abbrev pub has_bench : List Row → Family → Bool
has_bench rows family = option_map_or (λ n. nat_le n (greatest_of family)) (size_in rows) false && is_in_range 1 64 (workers_in rows)

abbrev pub bench_with : List Row → Family → BenchWords
bench_with rows family = record {
  family = family;
  number = unwrap_or (size_in rows) 0;
  workers = unwrap_or (workers_in rows) 0;
}

abbrev pub bench_in : List Row → Option BenchWords
bench_in rows = option_and_then (λ family. if has_bench rows family then Some (bench_with rows family) else None) (family_in rows)

-- the program of a family that the words of `bench` choose
abbrev pub bench_by : List Text → Option BenchWords
bench_by words = option_and_then bench_in (rows_by bench_app words)

-- the name of the file that is the one further word of a command
abbrev pub program_by : Text → List Text → Option Text
program_by name words = option_and_then (first_of (codes "program")) (rows_by (program_app name) words)

-- the first word is the command, as it stands
abbrev pub choice_by : Text → List Text → Option Choice
choice_by first words =
    if bytes_eq first (codes "run") then option_map Run (run_by run_app words) else (
    if bytes_eq first (codes "bench") then option_map Bench (bench_by words) else (
    if bytes_eq first (codes "plain") then option_map Plain (run_by plain_app words) else (
    if bytes_eq first (codes "check") then option_map Check (program_by (codes "check") words) else (
    if bytes_eq first (codes "print") then option_map Print (program_by (codes "print") words) else (
    if bytes_eq first (codes "help") then option_map (λ rows. Help) (rows_by help_app words) else None)))))

-- what the words choose, and none where they are refused
abbrev pub choice_of : List Text → Option Choice
choice_of [] = None
choice_of (first ∷ rest) = choice_by first (first ∷ rest)

-- ---- what was chosen, as words

abbrev pub run_seen : RunWordsSeen → RunWords
run_seen run = record {
  program = run.program.now;
  columns = option_copied run.columns;
  workers = run.workers;
  plan = plan_of run.plan;
  trace = run.trace;
}

abbrev pub choice_seen : ChoiceSeen → Choice
choice_seen (seen.Run run) = Run (run_seen run)
choice_seen (seen.Bench bench) = Bench bench
choice_seen (seen.Plain run) = Plain (run_seen run)
choice_seen (seen.Check program) = Check program.now
choice_seen (seen.Print program) = Print program.now
choice_seen seen.Help = Help

-- ---- what comes of words

-- what they choose, where they are accepted; else they are refused, or memory ran out before that was known
abbrev pub GivesOrWants : {A : Type 0} → Option A → Result A WordsError → Type 0
GivesOrWants chosen (Ok choice) = chosen ≡ Some choice
GivesOrWants chosen (Err Refused) = chosen ≡ None
GivesOrWants chosen (Err Memory) = Unit {0}
