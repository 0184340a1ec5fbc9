-- For whom numbers are drawn that stand in no state word yet.
use Rattle.std.specs.Prelude.{◌≡◌, ◌≢◌, ℕ, ◌+◌, ◌<◌, ◌==◌, ◌⊎◌, ◌≤◌, List, length, true}
use Rattle.record_core.specs.Sums.{total}
use Rattle.record_core.specs.Counting.{Has, one_if}
use Rattle.kt_words.specs.declared.plan.Plan.{Plan}
use Rattle.task_meaning.specs.Worths.{Accepted}
use Rattle.table_core.specs.Lists.{Each}
use Rattle.table_core.specs.Asking.{Drawn, Asker, OfRoot, OfTask}
use Rattle.table_core.specs.Holdings.{Made, Run, RootSays}
use Rattle.schedule_rule.specs.Calls.{task_of, begun}

-- what a pass has that numbers are drawn for
pub record Asks : Type 0 where
  pub made : List Made
  pub runs : List Run
  pub drawn : List Drawn
  pub turn : List (List RootSays)
  pub root_task : ℕ

-- 1 where the task t asks
abbrev pub asks_for : ℕ → Asker → ℕ
asks_for t (OfTask u) = one_if (u == t)
asks_for t (OfRoot r) = 0

module _ (calls : List Accepted) where
  -- the asker is a running record of this pass, or the root of its turn, whose task is this number
  abbrev pub IsAsker : Plan → Asks → ℕ → Asker → Type 0
  IsAsker g h n (OfTask t) = (r : Run) × Has r h.runs × (task_of calls r.number ≡ t)
  IsAsker g h n (OfRoot r) = (asked : List RootSays) × Has asked h.turn × (length asked ≡ r) × (r < g.roots) × (h.root_task ≡ n)

  -- The run drew the number for itself: it is its task's next one, with none between.
  pub record IsNextOf (d : Drawn) (r : Run) : Type 0 where
    pub unit : r.unit ≡ d.unit
    pub asked : r.asked ≡ true
    pub asker : d.asker ≡ OfTask (task_of calls r.number)
    pub task : task_of calls d.number ≡ task_of calls r.number
    pub next : begun calls (task_of calls r.number) d.number ≡ begun calls (task_of calls r.number) r.number + 1

  -- one of these numbers is the run's next one, drawn by it
  abbrev pub HasNext : List Drawn → Run → Type 0
  HasNext drawn r = (d : Drawn) × Has d drawn × IsNextOf d r

  -- a made record has the number, which is a task's first
  pub record IsFirstOf (d : Drawn) (r : Made) : Type 0 where
    pub unit : r.unit ≡ d.unit
    pub number : r.number ≡ d.number
    pub task : task_of calls d.number ≡ d.number

  -- the record for which the number was drawn is in the hand
  abbrev pub IsForRecord : Asks → Drawn → Type 0
  IsForRecord h d = ((r : Made) × Has r h.made × IsFirstOf d r) ⊎ ((r : Run) × Has r h.runs × IsNextOf d r)

  pub record AskedSound (g : Plan) (h : Asks) : Type 0 where
    pub asker : Each (λ d. IsAsker g h d.number d.asker × IsForRecord h d) h.drawn
    -- the number of a made record is one of these
    pub made : Each (λ (r : Made). r.number ≢ 0 → (d : Drawn) × Has d h.drawn × (d.unit ≡ r.unit) × (d.number ≡ r.number)) h.made
    -- a run has so many numbers unplaced as it asked for
    pub unplaced : Each (λ (r : Run). r.unplaced ≡ total (λ d. asks_for (task_of calls r.number) d.asker) h.drawn) h.runs
    -- and no more than one
    pub one : Each (λ (r : Run). r.unplaced ≤ 1) h.runs
    -- where a run has asked for its next number, that is drawn
    pub asked : Each (λ (r : Run). r.asked ≡ true → HasNext h.drawn r) h.runs
