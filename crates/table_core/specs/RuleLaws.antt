-- What the rule says of the pool in other words.
use Rattle.std.specs.Prelude.{◌≡◌, ◌≢◌, ℕ, ◌+◌, ◌<◌, ◌≤◌, ◌⊎◌, List, []}
use Rattle.record_core.specs.Counting.{At}
use Rattle.kt_words.specs.Capacity.{block_units}
use Rattle.kt_words.specs.SuperWords.{count_of, class_of}
use Rattle.kt_words.specs.StateWords.{phase_of}
use Rattle.table_core.specs.Addresses.{Mem, super, state, units_of}
use Rattle.table_core.specs.Lists.{Each}
use Rattle.table_core.specs.Holdings.{Block}
use Rattle.table_core.specs.Pool.{superblock_of, bit_in}
use Rattle.table_core.specs.Parts.{Lawful}
use Rattle.table_core.specs.declared.setup.Setup.{Setup}
use Rattle.table_core.specs.declared.view.View.{View}

-- block x is at position k of what the pass at position id has
pub record HasAt (vs : List View) (id k : ℕ) (x : Block) : Type 0 where
  pub pass : View
  pub at : At vs id pass
  pub there : At pass.blocks k x

-- the block of class c at unit u and that of class d at unit w share no unit
abbrev pub ShareNone : (u c w d : ℕ) → Type 0
ShareNone u c w d = (u + block_units c ≤ w) ⊎ (w + block_units d ≤ u)

abbrev pub AreApart : Block → Block → Type 0
AreApart x y = ShareNone x.unit x.class y.unit y.class

-- all blocks of all passes lie apart
abbrev pub BlocksAreApart : Type 0
BlocksAreApart = (g : Setup) (m : Mem) (vs : List View) → Lawful g m vs → (id k id' k' : ℕ) (x y : Block) → HasAt vs id k x → HasAt vs id' k' y
    → (id ≢ id') ⊎ (k ≢ k') → AreApart x y

-- a record stands at the unit, which is in use
pub record StandsAt (g : Setup) (m : Mem) (u : ℕ) : Type 0 where
  pub near : u < units_of g.plan
  pub used : 1 ≤ phase_of (m (state u))

-- the class of its block, which is that of its superblock
abbrev pub class_at : Setup → Mem → ℕ → ℕ
class_at g m u = class_of (m (super (superblock_of g.plan u)))

-- the blocks of records lie apart from each other
abbrev pub RecordsAreApart : Type 0
RecordsAreApart = (g : Setup) (m : Mem) (vs : List View) → Lawful g m vs → (u w : ℕ) → StandsAt g m u → StandsAt g m w → u ≢ w
    → ShareNone u (class_at g m u) w (class_at g m w)

-- and from all blocks of all passes
abbrev pub RecordsAndBlocksAreApart : Type 0
RecordsAndBlocksAreApart = (g : Setup) (m : Mem) (vs : List View) → Lawful g m vs → (id k u : ℕ) (x : Block) → HasAt vs id k x → StandsAt g m u
    → ShareNone x.unit x.class u (class_at g m u)

-- a pass has nothing of the pool
pub record HasNothing (v : View) : Type 0 where
  pub reserved : v.reserved ≡ []
  pub blocks : v.blocks ≡ []
  pub debts : v.debts ≡ []

-- where no pass has anything and no record stands, all counts are 0 and all bits are clear
abbrev pub UnusedPoolIsEmpty : Type 0
UnusedPoolIsEmpty = (g : Setup) (m : Mem) (vs : List View) → Lawful g m vs → Each HasNothing vs
    → ((u : ℕ) → u < units_of g.plan → phase_of (m (state u)) ≡ 0)
    → (i : ℕ) → i < g.plan.geometry.superblocks
    → (count_of (m (super i)) ≡ 0) × ((b : ℕ) → b < 512 → bit_in m i b ≡ 0)
