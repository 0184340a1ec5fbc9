-- What `clap` makes of words, by the faults that it finds in them.
use Rattle.std.proofs.Common.{◌≡◌, true, ◌⊎◌, inl, inr, List, [], ◌∷◌, Option, Some, None, Err, option_and_then, codes, refl, sym, ◌∙◌, ap}
use Rattle.task_syntax.proofs.Bools.{both}
use Rattle.clap.specs.Walk.{Row, Text, first_of, rows_of}
use Rattle.clap.specs.Simple.{App, HasMatchesOf, is_simple, matches_of}
use Rattle.clap.specs.Faults.{fault_of, is_simple_and_free}
use Rattle.clap.specs.Kinds.{IsAmong, Kinds}
use Rattle.clap.specs.Matches.{found_of}
use Rattle.clap.specs.declared.error.kind.ErrorKind.{ErrorKind}
use Rattle.clap.specs.declared.error.kind.ErrorKind.TheVariants as kind
use Rattle.clap.specs.declared.parser.matches.ArgMatches.{ArgMatches}
use Rattle.tool_words.specs.Choice.{GivesOrWants, program_by, rows_by, rows_without}
use Rattle.tool_words.specs.Commands.{program_app}
use Rattle.tool_words.specs.Kinds.{error_of}
use Rattle.tool_words.specs.declared.words_error.WordsError.{WordsError}
use Rattle.tool_words.specs.declared.words_error.WordsError.TheVariants.{Refused, Memory}

-- without a fault the rows are those of `clap`
pub taken : (app : App) (words : List Text) (found : ArgMatches) → is_simple_and_free app ≡ true → HasMatchesOf app words found → fault_of app words ≡ []
    → rows_by app words ≡ Some (rows_of (found_of found))
taken app words found simple has none = rw (none, ← (has (both (is_simple app) _ simple).0).0) refl

-- with one there are none
faulty : (kinds : Kinds) (rows : List Row) (k : ErrorKind) → IsAmong k kinds → rows_without kinds rows ≡ None
faulty [] rows k h = absurd h
faulty (x ∷ xs) rows k h = refl

nothing : (e : WordsError) → GivesOrWants {A = List Row} None (Err e)
nothing Refused = refl
nothing Memory = tt

-- an error is want of memory, or the words have a fault
pub refused : (app : App) (words : List Text) (k : ErrorKind) → (k ≡ kind.OutOfMemory) ⊎ IsAmong k (fault_of app words)
    → GivesOrWants {A = List Row} (rows_by app words) (Err (error_of k))
refused app words k (inl e) = rw e tt
refused app words k (inr among) = rw (faulty (fault_of app words) (matches_of app words) k among) (nothing (error_of k))

-- the program that is named is the first word of its name among the rows
pub program_named : (name : Text) (words : List Text) (app : App) (rows : List Row) (program : Option Text) → app ≡ program_app name → rows_by app words ≡ Some rows → first_of (codes "program") rows ≡ program
    → program_by name words ≡ program
program_named name words app rows program is by named =
    ap (λ a. option_and_then (first_of (codes "program")) (rows_by a words)) (sym is) ∙ (ap (option_and_then (first_of (codes "program"))) by ∙ named)
