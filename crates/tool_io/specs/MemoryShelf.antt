-- The shelf in memory: how it is made, and what each call answers and leaves.
use Rattle.std.specs.Prelude.{◌≡◌, ℕ, ◌<◌, ◌≤◌, ◌⊎◌, List, length, Contains, Result, Ok, Err, Option, Some, IsNone, IsSomeAnd, String, Vec, string_bytes, bytes_eq, option_map, find}
use Rattle.std.specs.declared.alloc.Global.{Global}
use Rattle.tool_io.specs.declared.fetch_error.FetchError.{FetchError}
use Rattle.tool_io.specs.declared.fetch_error.FetchError.TheVariants.{Failed, TooLong, Memory}
use Rattle.tool_io.specs.declared.memory_shelf.MemoryShelf.{MemoryShelf}
use Rattle.tool_io.specs.Count.{one_more}
use Rattle.tool_io.specs.Fetch.{faults_after}
use Rattle.tool_io.specs.Seen.{ShelfSeen}

-- the content of the first entry of this name
abbrev pub first_under : List (String Global × Vec ℕ Global) → List ℕ → Option (List ℕ)
first_under entries name = option_map (λ entry. entry.1.items) (find (λ entry. bytes_eq (string_bytes entry.0) name) entries)

abbrev pub bytes_under : MemoryShelf → List ℕ → Option (List ℕ)
bytes_under shelf name = first_under shelf.names.items name

abbrev pub seen_of : MemoryShelf → ShelfSeen
seen_of shelf = record { holds = bytes_under shelf; last = shelf.last; faults = shelf.faults }

-- the next call is one that is to fail
abbrev pub IsToFail : MemoryShelf → Type 0
IsToFail shelf = Contains shelf.fail.items (one_more shelf.calls)

-- the next call gives these bytes, or has this cause to refuse
abbrev pub Answers : {T : Type 0} → MemoryShelf → List ℕ → ℕ → Result T FetchError → List ℕ → Type 0
Answers shelf name most (Ok x) bytes = (¬ IsToFail shelf) × (bytes_under shelf name ≡ Some bytes) × (length bytes ≤ most)
Answers shelf name most (Err Failed) bytes = IsToFail shelf ⊎ IsNone (bytes_under shelf name)
Answers shelf name most (Err TooLong) bytes = (¬ IsToFail shelf) × IsSomeAnd (bytes_under shelf name) (λ held. most < length held)
Answers shelf name most (Err Memory) bytes = (¬ IsToFail shelf) × IsSomeAnd (bytes_under shelf name) (λ held. length held ≤ most)

-- the call and its answer are kept, a fault is counted, and the rest stays
pub record Records (old new : MemoryShelf) (result : Result (Unit {0}) FetchError) : Type 0 where
  pub names : new.names ≡ old.names
  pub fail : new.fail ≡ old.fail
  pub calls : new.calls ≡ one_more old.calls
  pub faults : new.faults ≡ faults_after result old.faults
  pub last : new.last ≡ Some result
