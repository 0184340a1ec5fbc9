-- What a pass holds, and what it keeps of what it saw.
use Rattle.std.specs.Prelude.{ℕ, Bool, Option, List}
use Rattle.table_core.specs.Asking.{Cut}

-- a place in the count of a superblock, for a block of this class
pub record Place : Type 0 where
  pub superblock : ℕ
  pub class : ℕ

-- A block by its first unit. It is fresh from its claim until a record in it has an accepted number.
pub record Block : Type 0 where
  pub unit : ℕ
  pub class : ℕ
  pub fresh : Bool

-- A superblock's word as a pass saw it when it looked for a class, and how many places of the word's class the pass itself had
-- reserved there and settled.
pub record Look : Type 0 where
  pub superblock : ℕ
  pub class : ℕ
  pub word : ℕ
  pub wins : ℕ
  pub settles : ℕ

-- a record that is made: the number that it was given, 0 for none, and whether it counts as living
pub record Made : Type 0 where
  pub unit : ℕ
  pub class : ℕ
  pub number : ℕ
  pub live : Bool

-- a record that waits and stands in no list, and the head to which its next word was linked
pub record Waiter : Type 0 where
  pub unit : ℕ
  pub number : ℕ
  pub linked : Option ℕ

-- A running record: its class, its number and the task of that number; whether its start has a stamp and is written; whether
-- its next number is drawn; whether its finish has a stamp and is written; how many numbers that it asked for stand in no state
-- word; how often it was counted as answered null; the cause that was written; and the words of its frame.
pub record Run : Type 0 where
  pub unit : ℕ
  pub class : ℕ
  pub number : ℕ
  pub task : ℕ
  pub starting : Bool
  pub started : Bool
  pub asked : Bool
  pub ending : Bool
  pub finished : Bool
  pub unplaced : ℕ
  pub nulls : ℕ
  pub cause : Option Cut
  pub words : List ℕ

-- a record that is done: whether its list is closed, and whether it no longer counts as living
pub record Done : Type 0 where
  pub unit : ℕ
  pub closed : Bool
  pub out : Bool

-- a number that was placed: the record that has it, and the record's state word and frame then
pub record Placing : Type 0 where
  pub unit : ℕ
  pub word : ℕ
  pub words : List ℕ

-- what is said of a root that was asked for
pub data RootSays : Type 0 where
  Record : (unit : ℕ) → RootSays
  Null : RootSays
  Limit : RootSays
  Skipped : (root : ℕ) → RootSays

-- what was seen of a record under a reference that the pass still has: its head, its task, its state when it was done
pub data Sight : Type 0 where
  SawHead : (unit head : ℕ) → Sight
  SawTask : (unit task : ℕ) → Sight
  SawDone : (unit word : ℕ) → Sight

-- the record of which something was seen
abbrev pub seen_at : Sight → ℕ
seen_at (SawHead unit head) = unit
seen_at (SawTask unit task) = unit
seen_at (SawDone unit word) = unit
