-- The fields of the records as one state, and what they keep.
use Rattle.std.specs.Prelude.{◌≡◌, ◌≤◌, ℕ, suc, List, [], ◌∷◌, Option, Some, None, length, drop}
use Rattle.pool_core.specs.Blocks.{BlockState}
use Rattle.pool_core.specs.Pool.{PoolState}
use Rattle.plain_state.specs.declared.record.Record.{Record}
use Rattle.plain_state.specs.Store.{StoreState, IsShaped}
use Rattle.plain_records.specs.Ready.{ReadyState}

-- of a block its class is kept, at its first unit
abbrev pub block_of_class : ℕ → Option ℕ → Option BlockState
block_of_class unit None = None
block_of_class unit (Some class) = Some (record { unit = unit; class = class })

-- the blocks at the units from one on, where these are the classes there
abbrev pub blocks_from : ℕ → List (Option ℕ) → List (Option BlockState)
blocks_from unit [] = []
blocks_from unit (class ∷ classes) = block_of_class unit class ∷ blocks_from (suc unit) classes

abbrev pub blocks_of : List (Option ℕ) → List (Option BlockState)
blocks_of classes = blocks_from 0 classes

-- the words of the units stand behind 6 others
abbrev pub unit_words : List ℕ → List ℕ
unit_words words = drop 6 words

abbrev pub store_of : PoolState → List (Option BlockState) → List Record → List ℕ → ReadyState → StoreState
store_of pool blocks records words ready = record { pool = pool; blocks = blocks; records = records; words = words; ready = ready.queues }

-- the store is shaped, words stand before those of the units, and each queue has a place for each unit
pub record AreRecords (superblocks : ℕ) (pool : PoolState) (blocks : List (Option BlockState)) (records : List Record) (words : List ℕ) (ready : ReadyState) : Type 0 where
  pub shaped : IsShaped (store_of pool blocks records (unit_words words) ready)
  pub before : 6 ≤ length words
  pub of_superblocks : superblocks ≡ length pool.superblocks
  pub of_ready : ready.capacity ≡ length records
