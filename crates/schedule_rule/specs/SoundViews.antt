-- What the rule says of one view alone. Each step may tell it of the view that it leaves.
use Rattle.std.specs.Prelude.{◌≡◌, ◌≢◌, ℕ, ◌+◌, ◌*◌, ◌<◌, ◌≤◌, ◌==◌, Some, List, length, slice_index}
use Rattle.record_core.specs.Sums.{total}
use Rattle.record_core.specs.Counting.{At, Has, passing}
use Rattle.kt_words.specs.Capacity.{block_units}
use Rattle.task_meaning.specs.Worths.{Accepted}
use Rattle.frame_code.specs.Frames.{frame_length}
use Rattle.frame_code.specs.Ways.{BodyHasWay}
use Rattle.frame_code.specs.Words.{body_at}
use Rattle.table_core.specs.Addresses.{Mem, units_of}
use Rattle.table_core.specs.Asking.{Drawn}
use Rattle.table_core.specs.Holdings.{Made, Waiter, Run, Done, SawTask}
use Rattle.table_core.specs.Lists.{Each}
use Rattle.table_core.specs.Own.{made_at, runs_at, done_at}
use Rattle.table_core.specs.Pool.{IsBlock}
use Rattle.table_core.specs.Story.{Outcome, IsAccepted, IsOver}
use Rattle.table_core.specs.WaitLists.{waits_at}
use Rattle.table_core.specs.declared.setup.Setup.{Setup}
use Rattle.table_core.specs.declared.view.View.{View}
use Rattle.schedule_rule.specs.Askers.{asks_for}
use Rattle.schedule_rule.specs.Calls.{after_in}
use Rattle.schedule_rule.specs.Frames.{IsFormed, BagSound}
use Rattle.schedule_rule.specs.Numbers.{in_hand}
use Rattle.schedule_rule.specs.Rows.{RowedSound}
use Rattle.schedule_rule.specs.Parts.{bags, places, rowed, seen, Lawful}

-- The frame of a run: its words begin with one, it lies in the record's block, and stands where a way arrives.
pub record IsRunFrame (g : Setup) (r : Run) : Type 0 where
  pub block : IsBlock g.plan r.unit r.class
  pub formed : IsFormed g.checked (slice_index r.words)
  pub fits : frame_length g.checked (slice_index r.words 0) ≤ 8 * block_units r.class
  pub way : BodyHasWay g.checked (body_at g.checked (slice_index r.words))

-- The pass has the records, and has references for all that its running frames hold.
pub record SoundRecords (g : Setup) (v : View) : Type 0 where
  pub frames : Each (IsRunFrame g) v.runs
  pub bag : BagSound g.checked (seen bags v)
  -- what it refers to, and its own records, are records of the table
  pub near : Each (λ u. u < units_of g.plan) v.futures
  pub made : Each (λ (r : Made). IsBlock g.plan r.unit r.class) v.made
  pub done : Each (λ (d : Done). d.unit < units_of g.plan) v.done
  pub waiting : Each (λ (x : Waiter). x.unit < units_of g.plan) v.waiting
  -- a record is one of its own in one way
  pub once : (u : ℕ) → made_at u v.made + waits_at u v.waiting + runs_at u v.runs + done_at u v.done ≤ 1

-- this is a number up to the limit
abbrev pub IsUpTo : ℕ → ℕ → Type 0
IsUpTo limit n = (1 ≤ n) × (n ≤ limit)

-- The pass has the numbers, each once.
pub record SoundNumbers (g : Setup) (v : View) : Type 0 where
  pub one_task : (t : ℕ) → passing (λ (r : Run). r.task == t) v.runs ≤ 1
  pub one_number : (n : ℕ) → in_hand n (seen places v) ≤ 1
  pub numbers : (n : ℕ) → 1 ≤ in_hand n (seen places v) → IsUpTo g.plan.limit n
  pub runs : Each (λ (r : Run). IsUpTo r.number r.task × (r.number ≤ g.plan.limit)) v.runs
  -- rows are lacking of drawn numbers alone
  pub rows : RowedSound (seen rowed v)
  -- so many numbers by which a run asked are not placed, and the number of a made record is one of the drawn ones
  pub unplaced : Each (λ (r : Run). r.unplaced ≡ total (λ d. asks_for r.task d.asker) v.drawn) v.runs
  pub made : Each (λ (r : Made). r.number ≢ 0 → (d : Drawn) × Has d v.drawn × (d.unit ≡ r.unit) × (d.number ≡ r.number)) v.made

-- What the pass knows agrees, and names tasks up to the limit.
pub record SoundFacts (g : Setup) (v : View) : Type 0 where
  pub one_call : (n : ℕ) (call other : Accepted) → Has (IsAccepted n call) v.facts → Has (IsAccepted n other) v.facts → call ≡ other
  pub one_end : (t : ℕ) (outcome other : Outcome) → Has (IsOver t outcome) v.facts → Has (IsOver t other) v.facts → outcome ≡ other
  pub one_sight : (u t other : ℕ) → Has (SawTask u t) v.sights → Has (SawTask u other) v.sights → t ≡ other
  pub numbers : (n : ℕ) (call : Accepted) → Has (IsAccepted n call) v.facts → IsUpTo g.plan.limit n
  pub afters : (n t : ℕ) (call : Accepted) → Has (IsAccepted n call) v.facts → after_in (Some call) ≡ Some t → (1 ≤ t) × (t < n)
  pub tasks : (u t : ℕ) → Has (SawTask u t) v.sights → IsUpTo g.plan.limit t

pub record SoundView (g : Setup) (v : View) : Type 0 where
  pub records : SoundRecords g v
  pub numbers : SoundNumbers g v
  pub facts : SoundFacts g v
  pub parts : v.parts ≤ 4096
  pub one_turn : length v.turn ≤ 1
  pub one_draw : v.may_draw ≤ 1

-- The rule says this of each view. So a step that keeps the rule may tell it of the view that it found and of that which it leaves.
abbrev pub SoundViews : Type 0
SoundViews = (g : Setup) (m : Mem) (vs : List View) (id : ℕ) (v : View) → Lawful g m vs → At vs id v → SoundView g v
