-- Faults of the outside, told by a count that never falls.
use Rattle.std.specs.Prelude.{ℕ, ◌≤◌, Result, MatchResult}
use Rattle.tool_io.specs.Count.{Rose}

-- the count has not fallen, and an error came only where it rose
abbrev pub ErrOnlyByFault : {T E : Type 0} → Result T E → ℕ → ℕ → Type 0
ErrOnlyByFault result before now = MatchResult result (λ _. before ≤ now) (λ _. Rose before now)
