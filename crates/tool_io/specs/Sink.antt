-- What sinks took.
use Rattle.std.specs.Prelude.{◌≡◌, ℕ, ◌<◌, List, length, ◌++◌, Option}
use Rattle.std.specs.Io.KnownBytes.{Appends}
use Rattle.tool_io.specs.Seen.{SinkSeen}

-- a front of the whole was appended, and the rest is left
pub record AppendsAllBut (old new : Option (List ℕ)) (whole rest : List ℕ) : Type 0 where
  pub front : List ℕ
  pub split : whole ≡ front ++ rest
  pub taken : Appends old new front

-- a front of the whole was appended, and not all of it
abbrev pub AppendsPrefix : Option (List ℕ) → Option (List ℕ) → List ℕ → Type 0
AppendsPrefix old new whole = (rest : List ℕ) × (0 < length rest) × AppendsAllBut old new whole rest

-- the sink took the whole text
abbrev pub Adds : SinkSeen → SinkSeen → List ℕ → Type 0
Adds was is text = Appends was.taken is.taken text

-- the sink took a front of the text, and not all of it
abbrev pub AddsFront : SinkSeen → SinkSeen → List ℕ → Type 0
AddsFront was is text = AppendsPrefix was.taken is.taken text
