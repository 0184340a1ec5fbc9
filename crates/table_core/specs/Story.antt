-- What has happened: the accepted calls, the events of the stamps, and the ends of tasks. Each list only grows, and each is
-- counted from 1.
use Rattle.std.specs.Prelude.{◌≡◌, ℕ, min, List, [], length}
use Rattle.record_core.specs.Sums.{total}
use Rattle.task_syntax.specs.declared.value.Value.{Value}
use Rattle.task_meaning.specs.Worths.{Accepted, OfCall, OfAll, Respawn}
use Rattle.table_core.specs.Asking.{Refusal, Cut, Stamp}

-- a task gave a value, or was cut; then it is told which refusal was the reason
pub data Outcome : Type 0 where
  Gave : (value : Value) → Outcome
  WasCut : (cut : Cut) (told : Refusal) → Outcome

pub record End : Type 0 where
  pub task : ℕ
  pub outcome : Outcome

pub record Story : Type 0 where
  pub calls : List Accepted
  pub order : List Stamp
  pub ends : List End

-- before the first step
abbrev pub unwritten : Story
unwritten = record { calls = []; order = []; ends = [] }

-- what a pass knows of the story: the call of a number, the end of a task, that there is a task of this number
pub data Fact : Type 0 where
  IsAccepted : (number : ℕ) (call : Accepted) → Fact
  IsOver : (task : ℕ) (outcome : Outcome) → Fact
  IsTask : (task : ℕ) → Fact

-- how many tasks were accepted; a further activation is none
abbrev pub is_new : Accepted → ℕ
is_new (OfCall call waits) = 1
is_new (OfAll members) = 1
is_new (Respawn t waits) = 0

abbrev pub tasks_in : List Accepted → ℕ
tasks_in = total is_new

-- The totals count the story: as many calls are accepted as numbers were drawn within the limit, and as many stamps were given.
pub record TotalsSound (limit : ℕ) (s : Story) (totals : ℕ → ℕ) : Type 0 where
  pub drawn : length s.calls ≡ min (totals 0) limit
  pub stamps : length s.order ≡ totals 2
