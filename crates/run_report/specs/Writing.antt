-- What a call that writes a text leaves.
use Rattle.std.specs.Prelude.{ℕ, ◌≤◌, List, Result, MatchResult}
use Rattle.tool_io.specs.declared.failed.Failed.{Failed}
use Rattle.tool_io.specs.Count.{Rose}
use Rattle.tool_io.specs.Seen.{SinkSeen}
use Rattle.tool_io.specs.Sink.{Adds, AddsFront}

-- The sink took the whole text; or it took a front of it and the call failed, which comes by a fault alone.
abbrev pub Writes : SinkSeen → SinkSeen → List ℕ → Result (Unit {0}) Failed → Type 0
Writes was is text result = MatchResult result
    (λ _. Adds was is text × (was.faults ≤ is.faults))
    (λ _. AddsFront was is text × Rose was.faults is.faults)
