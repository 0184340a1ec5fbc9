-- What each step of the pool tells, of its pass before it and after.
use Rattle.std.specs.Prelude.{◌≡◌, ◌≢◌, ℕ, ◌/◌, ◌%◌, true, slice_set}
use Rattle.std.specs.Int.{bit_at}
use Rattle.kt_words.specs.declared.plan.Plan.{Plan}
use Rattle.kt_words.specs.declared.super_word.SuperWord.{SuperWord}
use Rattle.kt_words.specs.SuperWords.{FitsSuperWord, packed_super}
use Rattle.table_core.specs.Addresses.{Addr, super, bits}
use Rattle.table_core.specs.Pool.{unit_of, superblock_of, bit_of}
use Rattle.table_core.specs.Views.{place, block, saw, looked, reserved, claimed, cleared, settled, released, joined}
use Rattle.step_table.specs.declared.pass.Pass.{Pass}
use Rattle.step_table.specs.declared.tokens.Reserved.{Reserved}
use Rattle.step_table.specs.declared.tokens.Debt.{Debt}
use Rattle.step_table.specs.declared.tokens.Block.{Block}
use Rattle.step_table.specs.Passes.{view, place_of, owed_by, block_of}

-- the word of the superblock was found, and is kept as a look for the class
abbrev pub Looks : ℕ → ℕ → Pass → SuperWord → Pass → Type 0
Looks i c old word new = view new ≡ saw (super i) (packed_super word) (looked i c (packed_super word) (view old))

-- the word was as it was seen, and a place is reserved; searches for the class begin here
pub record Reserves (i c : ℕ) (seen : SuperWord) (old : Pass) (won : Reserved) (new : Pass) : Type 0 where
  pub place_is : place_of won ≡ place i c
  pub view_is : view new ≡ saw (super i) (packed_super seen) (reserved (place i c) (view old))
  pub start_is : new.starts ≡ slice_set old.starts c i

-- the word was another, and nothing else has changed
pub record FindsOther (i : ℕ) (seen : SuperWord) (old : Pass) (word : SuperWord) (new : Pass) : Type 0 where
  pub fits : FitsSuperWord word
  pub other : word ≢ seen
  pub view_is : view new ≡ saw (super i) (packed_super word) (view old)

-- the bit was clear, and its block is in the hand in place of the reserved place
pub record Claims (g : Plan) (r : Reserved) (b : ℕ) (old : Pass) (won : Block) (new : Pass) : Type 0 where
  pub block_is : block_of won ≡ block (unit_of g r.superblock r.class b) r.class true
  pub found : ℕ
  pub clear : bit_at found (b % 64) ≡ 0
  pub view_is : view new ≡ saw (bits r.superblock (b / 64)) found (claimed g (place_of r) b (view old))

-- the bit was set, the place is given back, and nothing else has changed
pub record FindsSet (r : Reserved) (b : ℕ) (old : Pass) (lost : Reserved × ℕ) (new : Pass) : Type 0 where
  pub back : lost.0 ≡ r
  pub set : bit_at lost.1 (b % 64) ≡ 1
  pub view_is : view new ≡ saw (bits r.superblock (b / 64)) lost.1 (view old)

-- where the bit of a block lies
abbrev pub bit_word_of : Plan → Block → Addr
bit_word_of g x = bits (superblock_of g x.unit) (bit_of g x.unit x.class / 64)

-- the block has left the hand, and its place is owed
pub record Clears (g : Plan) (x : Block) (old : Pass) (debt : Debt) (new : Pass) : Type 0 where
  pub debt_is : owed_by debt ≡ place (superblock_of g x.unit) x.class
  pub found : ℕ
  pub view_is : view new ≡ saw (bit_word_of g x) found (cleared g (block_of x) (view old))

-- the debt has left the hand
pub record Settles (d : Debt) (old new : Pass) : Type 0 where
  pub found : ℕ
  pub view_is : view new ≡ saw (super d.superblock) found (settled (owed_by d) (view old))

-- the block has left the hand by two steps, and its place is settled
pub record Releases (g : Plan) (x : Block) (old new : Pass) : Type 0 where
  pub found : ℕ
  pub counted : ℕ
  pub view_is : view new ≡ saw (super (superblock_of g x.unit)) counted (saw (bit_word_of g x) found (released g (block_of x) (view old)))

-- one pass has taken in the other; the step after it saw the word of superblock 0
pub record Joins (keep other new : Pass) : Type 0 where
  pub found : ℕ
  pub view_is : view new ≡ saw (super 0) found (joined (view keep) (view other))
