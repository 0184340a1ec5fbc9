-- What each step on records and references tells, of its pass before it and after.
use Rattle.std.specs.Prelude.{◌≡◌, ◌↔◌, ℕ, Option, IsSome, IfSome, Some, true, false}
use Rattle.kt_words.specs.declared.plan.Plan.{Plan}
use Rattle.kt_words.specs.declared.state_word.StateWord.{StateWord}
use Rattle.kt_words.specs.StateWords.{packed_state}
use Rattle.table_core.specs.Addresses.{super, state, refs}
use Rattle.table_core.specs.Pool.{superblock_of, IsBlock}
use Rattle.table_core.specs.Own.{known_in}
use Rattle.table_core.specs.Views.{block, saw}
use Rattle.table_core.specs.RecordViews.{founded, unmade, filled, learnt, referred, lessened, gave_up, retired, saw_state}
use Rattle.step_table.specs.declared.pass.Pass.{Pass}
use Rattle.step_table.specs.declared.tokens.Block.{Block}
use Rattle.step_table.specs.declared.record_tokens.Made.{Made}
use Rattle.step_table.specs.declared.record_tokens.Future.{Future}
use Rattle.step_table.specs.declared.record_tokens.Finishing.{Finishing}
use Rattle.step_table.specs.declared.record_tokens.Retiring.{Retiring}
use Rattle.step_table.specs.declared.record_tokens.OwnWord.{OwnWord}
use Rattle.step_table.specs.Passes.{view, block_of}
use Rattle.step_table.specs.RecordHands.{word_of_record}

-- the block is a record that is made
pub record Founds (x : Block) (old : Pass) (made : Made) (new : Pass) : Type 0 where
  pub unit_is : made.unit ≡ x.unit
  pub class_is : made.class ≡ x.class
  pub found : ℕ
  pub view_is : view new ≡ saw (state x.unit) found (founded (block_of x) (view old))

-- the record is a fresh block again
pub record Unmakes (made : Made) (old : Pass) (back : Block) (new : Pass) : Type 0 where
  pub block_is : block_of back ≡ block made.unit made.class true
  pub found : ℕ
  pub view_is : view new ≡ saw (state made.unit) found (unmade made.unit made.class (view old))

-- the word is known
pub record Fills (u : ℕ) (word : OwnWord) (value : ℕ) (old new : Pass) : Type 0 where
  pub found : ℕ
  pub view_is : view new ≡ saw (word_of_record word u) found (filled (word_of_record word u) value (view old))

-- what was known of the word was found, and what was found is known where the word is the pass's own
pub record Reads (u : ℕ) (word : OwnWord) (old : Pass) (value : ℕ) (new : Pass) : Type 0 where
  pub known : (n : ℕ) → known_in (word_of_record word u) (view old).known ≡ Some n → value ≡ n
  pub view_is : view new ≡ saw (word_of_record word u) value (learnt (word_of_record word u) value (view old))

-- one reference more to the record of the future
pub record Refers (u : ℕ) (old : Pass) (new_one : Future) (new : Pass) : Type 0 where
  pub unit_is : new_one.unit ≡ u
  pub found : ℕ
  pub view_is : view new ≡ saw (refs u) found (referred u (view old))

-- the record is to be retired exactly where this was the last reference
pub record IsLast (u found : ℕ) (last : Option Retiring) : Type 0 where
  pub exactly : IsSome last ↔ (found ≡ 1)
  pub unit_is : IfSome last (λ r. r.unit ≡ u)

-- the reference of the future has left the hand
pub record Lessens (future : Future) (old : Pass) (last : Option Retiring) (new : Pass) : Type 0 where
  pub found : ℕ
  pub view_is : view new ≡ saw (refs future.unit) found (lessened future.unit found (view old))
  pub last_is : IsLast future.unit found last

-- the scheduler's own reference has left the hand
pub record GivesUp (finishing : Finishing) (old : Pass) (last : Option Retiring) (new : Pass) : Type 0 where
  pub found : ℕ
  pub view_is : view new ≡ saw (refs finishing.unit) found (gave_up finishing.unit found (view old))
  pub last_is : IsLast finishing.unit found last

-- The record is a block again, and not a fresh one. The step after it saw the word of its superblock, which tells the class.
pub record Retires (g : Plan) (retiring : Retiring) (old : Pass) (back : Block) (new : Pass) : Type 0 where
  pub is_block : IsBlock g retiring.unit back.class
  pub block_is : block_of back ≡ block retiring.unit back.class false
  pub found : ℕ
  pub counted : ℕ
  pub view_is : view new ≡ saw (super (superblock_of g retiring.unit)) counted (saw (state retiring.unit) found (retired retiring.unit back.class (view old)))

-- the state word was found; of a done record to which the pass has a reference it is kept
abbrev pub SeesState : ℕ → Pass → StateWord → Pass → Type 0
SeesState u old word new = view new ≡ saw (state u) (packed_state word) (saw_state u (packed_state word) (view old))
