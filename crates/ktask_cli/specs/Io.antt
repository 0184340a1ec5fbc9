-- One fetch from a shelf, and a text that is offered on a sink.
use Rattle.std.specs.Prelude.{◌≡◌, ℕ, ◌≤◌, ◌⊎◌, List, length, Some, Result, IfOk, IsErrOf}
use Rattle.std.specs.Result.{result_map_both}
use Rattle.tool_io.specs.declared.fetch_error.FetchError.{FetchError}
use Rattle.tool_io.specs.declared.fetch_error.FetchError.TheVariants.{TooLong}
use Rattle.tool_io.specs.Count.{Rose}
use Rattle.tool_io.specs.Fetch.{FailedOnlyByFault}
use Rattle.tool_io.specs.Seen.{ShelfSeen, SinkSeen, Holds, HoldsMore}
use Rattle.tool_io.specs.Sink.{Adds, AddsFront}
use Rattle.ktask_cli.specs.Stop.{longest_file}

-- one fetch of this name, and what it answered
pub record Fetches (was is : ShelfSeen) (name : List ℕ) (answer : Result (List ℕ) FetchError) : Type 0 where
  pub content : IfOk answer (λ bytes. Holds was name bytes)
  pub short : IfOk answer (λ bytes. length bytes ≤ longest_file)
  pub long : IsErrOf answer TooLong → HoldsMore was name longest_file
  pub kept : is.holds ≡ was.holds
  pub told : is.last ≡ Some (result_map_both (λ _. tt) (λ error. error) answer)
  pub cause : FailedOnlyByFault answer was.faults is.faults

-- the text was taken, or a front of it where the count of faults rose
abbrev pub Offers : SinkSeen → SinkSeen → List ℕ → Type 0
Offers was is text = (Adds was is text × (was.faults ≤ is.faults)) ⊎ (AddsFront was is text × Rose was.faults is.faults)
