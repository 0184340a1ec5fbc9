-- How a command ends: what it answers, and what the two sinks took.
use Rattle.std.specs.Prelude.{◌≡◌, ℕ, ◌⊎◌, List, [], Option, Some, None, Result, Ok, Err, MatchResult, IsNone}
use Rattle.record_core.specs.EndSeen.{EndSeen}
use Rattle.tool_words.specs.Choice.{Choice, Run, Bench, Plain, Check, Print, Help}
use Rattle.tool_words.specs.declared.words_error.WordsError.{WordsError}
use Rattle.tool_words.specs.declared.words_error.WordsError.TheVariants.{Refused, Memory}
use Rattle.ktask_cli.specs.declared.stop.Stop.{Stop}
use Rattle.ktask_cli.specs.declared.stop.Stop.TheVariants.{WordsRefused, WantOfMemory, WriteFault}
use Rattle.ktask_cli.specs.declared.outcome.Outcome.{Outcome}
use Rattle.ktask_cli.specs.Help.{help_text}
use Rattle.tool_io.specs.Count.{Rose}
use Rattle.ktask_cli.specs.Order.{Order, order_of, bench_order, IsRunOf, order_text}
use Rattle.ktask_cli.specs.Plan.{Plan}
use Rattle.ktask_cli.specs.Ready.{input_under, kinds_under, text_under}
use Rattle.ktask_cli.specs.Refusal.{Tells, Told}
use Rattle.ktask_cli.specs.RunStatus.{status_of_ends}
use Rattle.tool_io.specs.Seen.{ShelfSeen, SinkSeen}
use Rattle.tool_io.specs.Sink.{Adds, AddsFront}
use Rattle.ktask_cli.specs.Stop.{named_for}

-- the status and the ended run that are answered, and the two sinks before and after
pub record Answer : Type 0 where
  pub status : ℕ
  pub finished : Option EndSeen
  pub out_was : SinkSeen
  pub out_is : SinkSeen
  pub err_was : SinkSeen
  pub err_is : SinkSeen

abbrev pub answer : Outcome → SinkSeen → SinkSeen → SinkSeen → SinkSeen → Answer
answer outcome out_was out_is err_was err_is = record {
  status = outcome.status;
  finished = outcome.finished;
  out_was = out_was;
  out_is = out_is;
  err_was = err_was;
  err_is = err_is;
}

-- the answer of a command that runs nothing
abbrev pub plain_answer : ℕ → SinkSeen → SinkSeen → SinkSeen → SinkSeen → Answer
plain_answer status out_was out_is err_was err_is =
    answer (record { status = status; finished = None }) out_was out_is err_was err_is

-- `out` took the whole text, and the status is the one that is due then
pub record Takes (text : List ℕ) (status : ℕ) (a : Answer) : Type 0 where
  pub status_is : a.status ≡ status
  pub out : Adds a.out_was a.out_is text
  pub err : a.err_is ≡ a.err_was

-- `out` took a front of the text, since it had a fault, which was told
pub record TakesFront (text : List ℕ) (a : Answer) : Type 0 where
  pub out : AddsFront a.out_was a.out_is text
  pub fault : Rose a.out_was.faults a.out_is.faults
  pub told : Tells WriteFault [] a.status a.err_was a.err_is

-- the text was offered on `out`
abbrev pub Writes : List ℕ → ℕ → Answer → Type 0
Writes text status a = Takes text status a ⊎ TakesFront text a

-- what was ordered was run to this end, and its text was offered, with the status of its roots
pub record RunsTo (o : Order) (end : EndSeen) (a : Answer) : Type 0 where
  pub run : IsRunOf o end
  pub offered : Writes (order_text o end) (status_of_ends end.roots) a

-- it was run, and the end is answered
pub record Runs (o : Order) (a : Answer) : Type 0 where
  pub end : EndSeen
  pub finished : a.finished ≡ Some end
  pub ran : RunsTo o end a

-- it was run, and no end is answered
pub record RunsUntold (o : Order) (a : Answer) : Type 0 where
  pub end : EndSeen
  pub untold : IsNone a.finished
  pub ran : RunsTo o end a

-- nothing was run, and the text was offered, with status 0
pub record Prints (text : List ℕ) (a : Answer) : Type 0 where
  pub no_run : IsNone a.finished
  pub offered : Writes text 0 a

-- nothing was run or printed, and the reason was told
pub record Stops (stop : Stop) (name : List ℕ) (a : Answer) : Type 0 where
  pub no_run : IsNone a.finished
  pub out : a.out_is ≡ a.out_was
  pub told : Told stop name a.status a.err_was a.err_is

-- what was ordered was run and its end is answered, or memory ran out before the run
abbrev pub RunsOrWants : Order → Answer → Type 0
RunsOrWants o a = Runs o a ⊎ Stops WantOfMemory [] a

-- the shelf was asked by the plan alone, and the command ended with what the plan came to; a stop is told with a name
pub record Reaches {Ready : Type 0} (plan : Plan Ready) (Ends : Ready → Answer → Type 0) (named : Stop → List ℕ) (was is : ShelfSeen) (a : Answer) : Type 0 where
  pub reached : Result Ready Stop
  pub follows : plan was is reached
  pub ended : MatchResult reached (λ ready. Ends ready a) (λ stop. Stops stop (named stop) a)

-- the words were refused, and the shelf was not asked
abbrev pub RefusesWords : ShelfSeen → ShelfSeen → Answer → Type 0
RefusesWords was is a = (is ≡ was) × Stops WordsRefused [] a

-- memory ran out at the words, and the shelf was not asked
abbrev pub WantsAtWords : ShelfSeen → ShelfSeen → Answer → Type 0
WantsAtWords was is a = (is ≡ was) × Stops WantOfMemory [] a

-- what is done for a choice
abbrev pub DoesChoice : Choice → ShelfSeen → ShelfSeen → Answer → Type 0
DoesChoice (Run run) was is a =
    Reaches (input_under run.program run.columns) (λ input. Runs (order_of run input)) (named_for run.program run.columns) was is a
DoesChoice (Bench bench) was is a = (is ≡ was) × RunsOrWants (bench_order bench) a
DoesChoice (Plain run) was is a =
    Reaches (input_under run.program run.columns) (λ input. RunsUntold (order_of run input)) (named_for run.program run.columns) was is a
DoesChoice (Check name) was is a = Reaches (kinds_under name) Prints (λ stop. name) was is a
DoesChoice (Print name) was is a = Reaches (text_under name) Prints (λ stop. name) was is a
DoesChoice Help was is a = (is ≡ was) × Prints help_text a

-- what is done for words: what they choose, or they are refused where they choose nothing; memory may run out before
abbrev pub Does : Option Choice → ShelfSeen → ShelfSeen → Answer → Type 0
Does None was is a = RefusesWords was is a ⊎ WantsAtWords was is a
Does (Some choice) was is a = DoesChoice choice was is a ⊎ WantsAtWords was is a

-- the same for words that were looked at
abbrev pub DoesChosen : Result Choice WordsError → ShelfSeen → ShelfSeen → Answer → Type 0
DoesChosen (Ok choice) was is a = DoesChoice choice was is a
DoesChosen (Err Refused) was is a = RefusesWords was is a
DoesChosen (Err Memory) was is a = WantsAtWords was is a

-- the words of `run` and of `bench` are none that `plain_tool` takes
abbrev pub plain_of : Option Choice → Option Choice
plain_of None = None
plain_of (Some (Run run)) = None
plain_of (Some (Bench bench)) = None
plain_of (Some choice) = Some choice

abbrev pub plain_chosen : Result Choice WordsError → Result Choice WordsError
plain_chosen (Ok (Run run)) = Err Refused
plain_chosen (Ok (Bench bench)) = Err Refused
plain_chosen chosen = chosen
