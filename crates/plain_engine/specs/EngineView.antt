-- The fields of an engine as one state, and what they keep.
use Rattle.std.specs.Prelude.{◌≡◌, ℕ, ◌≤◌, Option, Some, None, List, [], IsSome, length, slice_get}
use Rattle.kt_words.specs.declared.super_word.SuperWord.{SuperWord}
use Rattle.record_core.specs.Journal.{JournalState}
use Rattle.record_core.specs.EndSeen.{EndSeen, RunPlan}
use Rattle.plain_state.specs.declared.record.RootState.{RootState}
use Rattle.plain_state.specs.declared.record.RootState.TheVariants as root
use Rattle.plain_state.specs.Store.{StoreState, HasUnit}
use Rattle.plain_state.specs.Engine.{EngineState}
use Rattle.plain_state.specs.EndView.{end_of_run}

abbrev pub engine_of : StoreState → JournalState → List RootState → ℕ → Option ℕ → List SuperWord → EngineState
engine_of store journal roots nulls class evidence =
    record { store = store; journal = journal; roots = roots; nulls = nulls; evidence_class = class; evidence = evidence }

-- There is memory for 16 roots and for the words of 1,024 superblocks, and none of these words is kept before the first null
-- answer.
pub record HasRooms (roots evidence : ℕ) (class : Option ℕ) (words : List SuperWord) : Type 0 where
  pub roots_fit : 16 ≤ roots
  pub superblocks_fit : 1024 ≤ evidence
  pub none_yet : class ≡ None → words ≡ []

-- the shape of the pool; the limit is not answered
abbrev pub shape_of : ℕ → ℕ → RunPlan
shape_of superblocks units = record { superblocks = superblocks; units = units; limit = 0 }

-- what an engine answers that has ended
abbrev pub end_of : ℕ → ℕ → EngineState → EndSeen
end_of superblocks units e = end_of_run (shape_of superblocks units) e

-- a root's task has a record
abbrev pub HasRecord : StoreState → RootState → Type 0
HasRecord s (root.Named unit) = HasUnit s unit
HasRecord s (root.Refused tag) = Unit {0}
HasRecord s (root.Skipped at tag) = Unit {0}

-- it can be read: there are few roots, the task of each has a record, and a null answer has left a word for each superblock
pub record IsReadable (superblocks : ℕ) (e : EngineState) : Type 0 where
  pub few : length e.roots ≤ 16
  pub known : (at : ℕ) (state : RootState) → slice_get e.roots at ≡ Some state → HasRecord e.store state
  pub whole : IsSome e.evidence_class → length e.evidence ≡ superblocks
