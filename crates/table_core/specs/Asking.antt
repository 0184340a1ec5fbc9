-- Who asks for a number, what the answer is, and why a task ends without a value.
use Rattle.std.specs.Prelude.{ℕ}

-- the root of the turn, or a task that runs
pub data Asker : Type 0 where
  OfRoot : (root : ℕ) → Asker
  OfTask : (task : ℕ) → Asker

pub data Refusal : Type 0 where
  IsNull : Refusal
  IsLimit : Refusal

pub record Answer : Type 0 where
  pub asker : Asker
  pub refusal : Refusal

-- a number that stands in no state word, the unit of the record that it is for, and who asked
pub record Drawn : Type 0 where
  pub number : ℕ
  pub unit : ℕ
  pub asker : Asker

-- the event of a stamp: the start of a number, or the finish of a task
pub data Stamp : Type 0 where
  Starts : (number : ℕ) → Stamp
  Ends : (task : ℕ) → Stamp

-- a stamp with its event, which is not yet in the journal
pub record Owned : Type 0 where
  pub at : ℕ
  pub owner : Stamp

-- the cause of a cut; the last is the predecessor that was cut
pub data Cut : Type 0 where
  Null : Cut
  Limit : Cut
  By : (task : ℕ) → Cut
