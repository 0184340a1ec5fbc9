-- The pool: how the word of a superblock, its bits, the records in it and what passes hold of it agree.
use Rattle.std.specs.Prelude.{◌≡◌, ℕ, ◌+◌, ◌*◌, ◌/◌, ◌%◌, ◌^◌, ◌<◌, ◌≤◌, List, cond, ◌==◌, nat_lt}
use Rattle.record_core.specs.Sums.{total, below}
use Rattle.kt_words.specs.declared.plan.Plan.{Plan}
use Rattle.kt_words.specs.Capacity.{block_units, capacity}
use Rattle.kt_words.specs.SuperWords.{count_of, class_of, ever_of}
use Rattle.kt_words.specs.StateWords.{phase_of}
use Rattle.table_core.specs.Addresses.{Mem, bits, units_of}
use Rattle.record_core.specs.Counting.{one_if}
use Rattle.table_core.specs.Lists.{Each, hit, hit3}
use Rattle.table_core.specs.Holdings.{Place, Block}

-- how many blocks of a class a superblock holds
abbrev pub cap : Plan → ℕ → ℕ
cap g c = capacity g.geometry.units c

-- the first unit of the block of class c at bit b of superblock i, and back
abbrev pub unit_of : Plan → ℕ → ℕ → ℕ → ℕ
unit_of g i c b = i * g.geometry.units + b * block_units c

abbrev pub superblock_of : Plan → ℕ → ℕ
superblock_of g u = u / g.geometry.units

abbrev pub bit_of : Plan → ℕ → ℕ → ℕ
bit_of g u c = u % g.geometry.units / block_units c

-- a block of this class may begin at this unit
pub record IsBlock (g : Plan) (unit class : ℕ) : Type 0 where
  pub class_fits : class ≤ 3
  pub inside : unit < units_of g
  pub at_its_place : unit_of g (superblock_of g unit) class (bit_of g unit class) ≡ unit

-- 1 where the state of a unit is not FREE: a record stands there
abbrev pub is_used : ℕ → ℕ
is_used word = one_if (nat_lt 0 (phase_of word))

-- what a pass has of the pool
pub record Hand : Type 0 where
  pub reserved : List Place
  pub blocks : List Block
  pub debts : List Place

-- how many places of a class a hand has in the count of superblock i
abbrev pub places : Plan → ℕ → ℕ → Hand → ℕ
places g i c h = total (λ r. hit r.superblock r.class i c) h.reserved + total (λ b. hit (superblock_of g b.unit) b.class i c) h.blocks
    + total (λ d. hit d.superblock d.class i c) h.debts

-- how often a hand has the block of class c at bit b of superblock i
abbrev pub owns : Plan → ℕ → ℕ → ℕ → Hand → ℕ
owns g i c b h = total (λ x. hit3 (superblock_of g x.unit) x.class (bit_of g x.unit x.class) i c b) h.blocks

-- how many records stand in superblock i; whether one stands at the first unit of that block
abbrev pub records : Plan → (ℕ → ℕ) → ℕ → ℕ
records g states i = below (λ j. is_used (states (i * g.geometry.units + j))) g.geometry.units

abbrev pub used_at : Plan → (ℕ → ℕ) → ℕ → ℕ → ℕ → ℕ
used_at g states i c b = cond (nat_lt b (cap g c)) (is_used (states (unit_of g i c b))) 0

-- how many places of class c of superblock i are taken, by all hands and by records
abbrev pub held : Plan → (ℕ → ℕ) → (ℕ → ℕ) → List Hand → ℕ → ℕ → ℕ
held g supers states hands i c = total (places g i c) hands + cond (class_of (supers i) == c) (records g states i) 0

-- how many owners the block of class c at bit b has: hands, or a record
abbrev pub owned : Plan → (ℕ → ℕ) → (ℕ → ℕ) → List Hand → ℕ → ℕ → ℕ → ℕ
owned g supers states hands i c b = total (owns g i c b) hands + cond (class_of (supers i) == c) (used_at g states i c b) 0

-- a superblock with this word and these bits, of which so many places are held and blocks owned
pub record IsKept (g : Plan) (word : ℕ) (bits : ℕ → ℕ) (held : ℕ → ℕ) (owned : ℕ → ℕ → ℕ) : Type 0 where
  pub class_fits : class_of word ≤ 3
  -- the count is that of the places of its class; there are none of another class
  pub counted : (c : ℕ) → held c ≡ cond (class_of word == c) (count_of word) 0
  pub few : count_of word ≤ cap g (class_of word)
  pub ever : count_of word ≤ ever_of word
  -- a block has one owner where its bit is set, and none where it is clear; no other class has a block
  pub once : (c b : ℕ) → b < 512 → owned c b ≡ cond (class_of word == c) (bits b) 0
  -- past the capacity there is none
  pub inside : (c b : ℕ) → cap g c ≤ b → owned c b ≡ 0

pub record PoolSound (g : Plan) (supers : ℕ → ℕ) (bits : ℕ → ℕ → ℕ) (states : ℕ → ℕ) (hands : List Hand) : Type 0 where
  pub kept : (i : ℕ) → i < g.geometry.superblocks → IsKept g (supers i) (bits i) (held g supers states hands i) (owned g supers states hands i)
  -- what a hand has as a block is one
  pub blocks : Each (λ h. Each (λ (b : Block). IsBlock g b.unit b.class) h.blocks) hands
  -- records stand at first units of blocks of the superblock's class
  pub first : (i j : ℕ) → i < g.geometry.superblocks → j < g.geometry.units → is_used (states (i * g.geometry.units + j)) ≡ 1 → j % block_units (class_of (supers i)) ≡ 0

-- bit b of superblock i, 64 to a word
abbrev pub bit_in : Mem → ℕ → ℕ → ℕ
bit_in m i b = m (bits i (b / 64)) / 2 ^ (b % 64) % 2
