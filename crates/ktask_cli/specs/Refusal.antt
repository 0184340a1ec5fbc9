-- How the reason for which a command stops is told.
use Rattle.std.specs.Prelude.{◌≡◌, ℕ, ◌⊎◌, List}
use Rattle.ktask_cli.specs.declared.stop.Stop.{Stop}
use Rattle.ktask_cli.specs.declared.stop.Stop.TheVariants.{CannotRead, TooLong, WantOfMemory}
use Rattle.tool_io.specs.Seen.{SinkSeen}
use Rattle.ktask_cli.specs.Io.{Offers}
use Rattle.ktask_cli.specs.Stop.{status_of, line_of}

-- the reason's status, and its line was offered
pub record Tells (cause : Stop) (name : List ℕ) (status : ℕ) (was is : SinkSeen) : Type 0 where
  pub status_is : status ≡ status_of cause
  pub line : Offers was is (line_of name cause)

-- the reason was told, or memory for its line was wanting
abbrev pub TellsOrWants : Stop → List ℕ → ℕ → SinkSeen → SinkSeen → Type 0
TellsOrWants cause name status was is = Tells cause name status was is ⊎ Tells WantOfMemory name status was is

-- a line that names a file takes memory; each other one is told
abbrev pub Told : Stop → List ℕ → ℕ → SinkSeen → SinkSeen → Type 0
Told (CannotRead which) name status was is = TellsOrWants (CannotRead which) name status was is
Told (TooLong which) name status was is = TellsOrWants (TooLong which) name status was is
Told cause name status was is = Tells cause name status was is
