-- The sink in memory: how it is made, and what each call answers and leaves.
use Rattle.std.specs.Prelude.{◌≡◌, ℕ, ◌+◌, ◌<◌, ◌⊎◌, List, [], length, Contains, Result, MatchResult, Vec}
use Rattle.std.specs.declared.alloc.Global.{Global}
use Rattle.tool_io.specs.declared.memory_sink.MemorySink.{MemorySink}
use Rattle.tool_io.specs.Count.{one_more}

-- nothing was taken and no call was made
pub record IsFresh (sink : MemorySink) (most : ℕ) (failing : Vec ℕ Global) : Type 0 where
  pub bytes : sink.bytes.items ≡ []
  pub fail : sink.fail ≡ failing
  pub calls : sink.calls ≡ 0
  pub faults : sink.faults ≡ 0
  pub room : sink.room ≡ most

-- the next call is listed, or the piece goes past the room
abbrev pub Fails : MemorySink → List ℕ → Type 0
Fails sink piece = Contains sink.fail.items (one_more sink.calls) ⊎ (sink.room < length sink.bytes.items + length piece)

-- the call is counted, a fault is counted exactly where it failed, and the rest stays
pub record Counts {T E : Type 0} (old new : MemorySink) (result : Result T E) : Type 0 where
  pub calls : new.calls ≡ one_more old.calls
  pub faults : MatchResult result (λ _. new.faults ≡ old.faults) (λ _. new.faults ≡ one_more old.faults)
  pub fail : new.fail ≡ old.fail
  pub room : new.room ≡ old.room
