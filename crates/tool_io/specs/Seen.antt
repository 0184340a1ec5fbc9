-- What a clause sees of a shelf and of a sink at a moment.
use Rattle.std.specs.Prelude.{◌≡◌, ℕ, ◌<◌, List, length, Option, Result, IfSome}
use Rattle.tool_io.specs.declared.fetch_error.FetchError.{FetchError}

-- the bytes under a name, where the shelf tells them; what its last call answered, and nothing before the first; and how
-- often it failed so far
pub record ShelfSeen : Type 0 where
  pub holds : List ℕ → Option (List ℕ)
  pub last : Option (Result (Unit {0}) FetchError)
  pub faults : ℕ

-- the bytes taken so far, where the sink tells them, and how often it failed so far
pub record SinkSeen : Type 0 where
  pub taken : Option (List ℕ)
  pub faults : ℕ

-- the shelf has this text under the name, if it tells what it holds
abbrev pub Holds : ShelfSeen → List ℕ → List ℕ → Type 0
Holds shelf name text = IfSome (shelf.holds name) (λ held. text ≡ held)

-- the shelf has more than so many bytes under the name, if it tells what it holds
abbrev pub HoldsMore : ShelfSeen → List ℕ → ℕ → Type 0
HoldsMore shelf name most = IfSome (shelf.holds name) (λ held. most < length held)
