-- What is counted in the table once a run has ended.
use Rattle.std.specs.Prelude.{◌≡◌, ℕ, Bool, true, false, List, [], ◌∷◌, ◌++◌, length}
use Rattle.record_core.specs.Counting.{passing}
use Rattle.record_core.specs.Sums.{total}
use Rattle.kt_words.specs.StateWords.{packed_state}
use Rattle.kt_words.specs.SuperWords.{packed_super}
use Rattle.kt_words.specs.declared.phase.Phase.{Phase}
use Rattle.kt_words.specs.declared.phase.Phase.TheVariants as phase
use Rattle.kt_words.specs.declared.plan.Plan.{Plan}
use Rattle.kt_words.specs.declared.state_word.StateWord.{StateWord}
use Rattle.kt_words.specs.declared.super_word.SuperWord.{SuperWord}
use Rattle.table_core.specs.Addresses.{Addr, state, super, sum, units_of}
use Rattle.table_core.specs.declared.view.View.{View}
use Rattle.worker_rows.specs.declared.ended.Left.{Left}

-- the phase of a record that is done
abbrev pub is_complete : Phase → Bool
is_complete phase.Complete = true
is_complete _ = false

-- a phase of a record that is neither done nor free
abbrev pub is_busy : Phase → Bool
is_busy phase.Complete = false
is_busy phase.Free = false
is_busy _ = true

-- the state word of each unit was seen once, the last unit first
abbrev pub states_seen : List StateWord → List (Addr × ℕ)
states_seen [] = []
states_seen (word ∷ words) = (state (length words), packed_state word) ∷ states_seen words

-- the word of each superblock was, the last one first
abbrev pub supers_seen : List SuperWord → List (Addr × ℕ)
supers_seen [] = []
supers_seen (word ∷ words) = (super (length words), packed_super word) ∷ supers_seen words

-- So many of the first units are seen: so many of them were the first of a done record, and so many of one in another phase.
pub record SeesRecords (units done going : ℕ) (old new : View) : Type 0 where
  pub words : List StateWord
  pub each : length words ≡ units
  pub seen : new.seen ≡ states_seen words ++ old.seen
  pub done_is : done ≡ passing (λ (word : StateWord). is_complete word.phase) words
  pub going_is : going ≡ passing (λ (word : StateWord). is_busy word.phase) words

-- So many of the first superblocks are seen, which count so many blocks.
pub record SeesBlocks (superblocks blocks : ℕ) (old new : View) : Type 0 where
  pub words : List SuperWord
  pub each : length words ≡ superblocks
  pub seen : new.seen ≡ supers_seen words ++ old.seen
  pub blocks_is : blocks ≡ total (λ (word : SuperWord). word.count) words

-- The living records were counted, and then each unit and each superblock was seen.
pub record SeesLeft (g : Plan) (old : View) (left : Left) (new : View) : Type 0 where
  pub counted : View
  pub looked : View
  pub live : counted.seen ≡ (sum 1, left.live) ∷ old.seen
  pub records : SeesRecords (units_of g) left.done left.going counted looked
  pub blocks : SeesBlocks g.geometry.superblocks left.blocks looked new
