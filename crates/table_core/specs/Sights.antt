-- What a pass saw of records to which it has had references since.
use Rattle.std.specs.Prelude.{◌≡◌, ◌≢◌, ℕ, ◌<◌, ◌≤◌, ◌⊎◌, List}
use Rattle.record_core.specs.Counting.{times}
use Rattle.kt_words.specs.HeadWords.{closed_word, length_of}
use Rattle.kt_words.specs.StateWords.{phase_of}
use Rattle.table_core.specs.Lists.{Each}
use Rattle.table_core.specs.Holdings.{Sight, SawHead, SawTask, SawDone, seen_at}

-- a later head: the same, a longer list, or closed
abbrev pub IsLater : ℕ → ℕ → Type 0
IsLater old new = (new ≡ old) ⊎ ((new ≡ closed_word) ⊎ ((old ≢ closed_word) × (length_of old < length_of new)))

-- the references of a pass, by unit, and what it saw
pub record Knows : Type 0 where
  pub futures : List ℕ
  pub sights : List Sight

module _ (heads tasks states : ℕ → ℕ) where
  -- the head is a later one; the task stays, and so does the state word of a done record
  abbrev pub StillSo : Sight → Type 0
  StillSo (SawHead unit head) = IsLater head (heads unit)
  StillSo (SawTask unit task) = tasks unit ≡ task
  StillSo (SawDone unit word) = (states unit ≡ word) × (phase_of word ≡ 5)

  -- each sight is of a record to which the pass has a reference, and is still so
  abbrev pub IsKnown : Knows → Type 0
  IsKnown k = Each (λ s. (1 ≤ times (seen_at s) k.futures) × StillSo s) k.sights

  abbrev pub SightsSound : List Knows → Type 0
  SightsSound = Each IsKnown
