-- What the pass of a worker has in its hand.
use Rattle.std.specs.Prelude.{◌≡◌, ℕ, ◌+◌, Option, Some, None, List, [], ◌∷◌, length}
use Rattle.std.specs.Option.{option_to_list}
use Rattle.record_core.specs.Counting.{times}
use Rattle.frame_code.specs.Units.{named_in}
use Rattle.table_core.specs.Addresses.{Addr, sum}
use Rattle.table_core.specs.Asking.{Drawn, Owned}
use Rattle.table_core.specs.Holdings.{Place, Block, Made, Waiter, Run, Done}
use Rattle.table_core.specs.Views.{IsIdle}
use Rattle.table_core.specs.WaitViews.{with_chain}
use Rattle.table_core.specs.declared.setup.Setup.{Setup}
use Rattle.table_core.specs.declared.view.View.{View}
use Rattle.schedule_rule.specs.LifeViews.{answers_left}
use Rattle.step_table.specs.ListHands.{HasChain}
use Rattle.step_table.specs.Passes.{view}
use Rattle.step_table.specs.declared.pass.Pass.{Pass}
use Rattle.step_table.specs.declared.record_tokens.Chain.{Chain}
use Rattle.schedule_core.specs.Runs.{IsInStep}
use Rattle.schedule_core.specs.declared.running.Running.{Running}

-- what a hand has beside references, running records, chains and answers
pub record Others : Type 0 where
  pub reserved : List Place
  pub blocks : List Block
  pub debts : List Place
  pub made : List Made
  pub waiting : List Waiter
  pub done : List Done
  pub retiring : List ℕ
  pub drawn : List Drawn
  pub no_task : List ℕ
  pub no_after : List ℕ
  pub stamps : List Owned
  pub unwritten : List (Addr × ℕ)

abbrev pub others : View → Others
others v = record {
  reserved = v.reserved;
  blocks = v.blocks;
  debts = v.debts;
  made = v.made;
  waiting = v.waiting;
  done = v.done;
  retiring = v.retiring;
  drawn = v.drawn;
  no_task = v.no_task;
  no_after = v.no_after;
  stamps = v.stamps;
  unwritten = v.unwritten;
}

abbrev pub no_others : Others
no_others = record { reserved = []; blocks = []; debts = []; made = []; waiting = []; done = []; retiring = []; drawn = []; no_task = []; no_after = []; stamps = []; unwritten = [] }

-- The hand has this running task and nothing else: the references are those that its frame names and these, and the answers are to it.
pub record RunsAlone (g : Setup) (x : Running) (units : List ℕ) (v : View) : Type 0 where
  pub in_step : IsInStep g x v
  pub one : (r : Run) × (v.runs ≡ r ∷ [])
  pub none : others v ≡ no_others
  pub chains : v.chains ≡ []
  pub bag : (w : ℕ) → times w v.futures ≡ times w units + times w (named_in g.checked x.frame.items)
  pub answers : answers_left x.task v.answers ≡ []

-- The pass counts them, and the record that was made for the task's last act, if one was, is all that they are to beside those of the frame.
pub record Runs (g : Setup) (x : Running) (units : List ℕ) (p : Pass) : Type 0 where
  pub alone : RunsAlone g x units (view p)
  pub made_is : option_to_list x.made ≡ units
  pub count : p.held ≡ length units + length (named_in g.checked x.frame.items)

-- the hand has a chain and nothing else
pub record HasOnlyChain (g : Setup) (chain : Chain) (v : View) : Type 0 where
  pub members : List ℕ
  pub has : HasChain g.plan chain v members
  pub chains : v.chains ≡ with_chain members []
  pub none : others v ≡ no_others
  pub runs : v.runs ≡ []
  pub futures : v.futures ≡ []
  pub answers : v.answers ≡ []

-- the hand has that chain and nothing else, or nothing
abbrev pub LeavesChain : Setup → Option Chain → View → Type 0
LeavesChain g None v = IsIdle v
LeavesChain g (Some chain) v = HasOnlyChain g chain v

-- the pass is idle, and counts no references
pub record IsFree (p : Pass) : Type 0 where
  pub idle : IsIdle (view p)
  pub count : p.held ≡ 0

-- it has one running record, with this number
abbrev pub Stands : ℕ → View → Type 0
Stands number v = (r : Run) × (v.runs ≡ r ∷ []) × (r.number ≡ number)

-- the same pass, which may hold and know something else
pub record GoesOn (old new : Pass) : Type 0 where
  pub table : new.seat.table_id ≡ old.seat.table_id
  pub id : new.seat.id ≡ old.seat.id
  pub splits : new.splits ≡ old.splits
  pub number : new.number ≡ old.number

-- the last step of the pass found that no record lives
abbrev pub SawNoneLive : Pass → Type 0
SawNoneLive p = (before : List (Addr × ℕ)) × ((view p).seen ≡ (sum 1, 0) ∷ before)
