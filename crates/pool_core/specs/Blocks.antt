-- Blocks as ranges of units.
use Rattle.std.specs.Prelude.{ℕ, ◌+◌, ◌*◌, ◌<◌, ◌≤◌}
use Rattle.kt_words.specs.Capacity.{block_units}

-- the first unit of a block, and its class
pub record BlockState : Type 0 where
  pub unit : ℕ
  pub class : ℕ

-- the block at a place of a superblock
abbrev pub block_at : ℕ → ℕ → ℕ → ℕ → BlockState
block_at units superblock class bit = record { unit = superblock * units + bit * block_units class; class = class }

-- the units of a block
pub record HasUnit (block : BlockState) (unit : ℕ) : Type 0 where
  pub from : block.unit ≤ unit
  pub before : unit < block.unit + block_units block.class
