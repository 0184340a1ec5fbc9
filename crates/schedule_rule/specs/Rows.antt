-- The two rows of the journal that are written when a number is drawn: its task, and the task of its predecessor.
use Rattle.std.specs.Prelude.{◌≡◌, ℕ, ◌≤◌, ◌==◌, List, cond, Option, Some, None}
use Rattle.record_core.specs.Sums.{total}
use Rattle.record_core.specs.Counting.{one_if, passing, times}
use Rattle.task_meaning.specs.Worths.{Accepted}
use Rattle.table_core.specs.Lists.{Each}
use Rattle.table_core.specs.Asking.{Drawn}
use Rattle.table_core.specs.Holdings.{Run}
use Rattle.schedule_rule.specs.Calls.{task_of, after_of, is_number}

-- a task as a word of the journal, 0 for none
abbrev pub word_of_task : Option ℕ → ℕ
word_of_task None = 0
word_of_task (Some t) = t

-- the numbers whose rows a pass is still to write
pub record Unwritten : Type 0 where
  pub no_task : List ℕ
  pub no_after : List ℕ

-- how often passes are still to write the row of the number n
abbrev pub lacking_task : ℕ → List Unwritten → ℕ
lacking_task n = total (λ h. times n h.no_task)

abbrev pub lacking_after : ℕ → List Unwritten → ℕ
lacking_after n = total (λ h. times n h.no_after)

-- the row of an accepted number is this word once nobody is to write it, and 0 until then
abbrev pub row_word : List Accepted → ℕ → ℕ → ℕ → ℕ
row_word calls n lacking word = cond (is_number calls n) (cond (lacking == 0) word 0) 0

pub record RowsSound (calls : List Accepted) (tasks afters : ℕ → ℕ) (vs : List Unwritten) : Type 0 where
  pub task : (n : ℕ) → tasks n ≡ row_word calls n (lacking_task n vs) (task_of calls n)
  pub after : (n : ℕ) → afters n ≡ row_word calls n (lacking_after n vs) (word_of_task (after_of calls n))
  -- one pass at most is to write a row, and of accepted numbers alone
  pub task_once : (n : ℕ) → lacking_task n vs ≤ one_if (is_number calls n)
  pub after_once : (n : ℕ) → lacking_after n vs ≤ one_if (is_number calls n)

-- Who takes a number reads its predecessor's row. So a pass lacks rows of numbers alone that it drew and that stand in no state
-- word yet, and the number of its run is one that it took.
pub record Rowing : Type 0 where
  pub no_task : List ℕ
  pub no_after : List ℕ
  pub drawn : List Drawn
  pub taken : List ℕ
  pub runs : List Run

-- how often the number n is drawn and stands in no state word
abbrev pub drawn_at : ℕ → List Drawn → ℕ
drawn_at n = passing (λ d. d.number == n)

pub record RowedSound (h : Rowing) : Type 0 where
  pub task : (n : ℕ) → times n h.no_task ≤ drawn_at n h.drawn
  pub after : (n : ℕ) → times n h.no_after ≤ drawn_at n h.drawn
  pub runs : Each (λ (r : Run). 1 ≤ times r.number h.taken) h.runs
