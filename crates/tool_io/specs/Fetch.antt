-- What a fetch says of the shelf's count of faults.
use Rattle.std.specs.Prelude.{ℕ, ◌≤◌, Result, Ok, Err}
use Rattle.tool_io.specs.declared.fetch_error.FetchError.{FetchError}
use Rattle.tool_io.specs.declared.fetch_error.FetchError.TheVariants.{Failed, TooLong, Memory}
use Rattle.tool_io.specs.Count.{one_more, Rose}

-- the count has not fallen, and `Failed` came only where it rose
abbrev pub FailedOnlyByFault : {T : Type 0} → Result T FetchError → ℕ → ℕ → Type 0
FailedOnlyByFault (Ok x) before now = before ≤ now
FailedOnlyByFault (Err Failed) before now = Rose before now
FailedOnlyByFault (Err TooLong) before now = before ≤ now
FailedOnlyByFault (Err Memory) before now = before ≤ now

-- one more where the answer was `Failed`
abbrev pub faults_after : {T : Type 0} → Result T FetchError → ℕ → ℕ
faults_after (Ok x) faults = faults
faults_after (Err Failed) faults = one_more faults
faults_after (Err TooLong) faults = faults
faults_after (Err Memory) faults = faults
