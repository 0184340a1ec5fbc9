-- Where each accepted number stands, and each task.
use Rattle.std.specs.Prelude.{◌≡◌, ℕ, ◌+◌, ◌<◌, ◌≤◌, ◌==◌, ◌&&◌, nat_le, Bool, List, true, false, cond, IfSome, Some}
use Rattle.record_core.specs.Sums.{total, below}
use Rattle.record_core.specs.Counting.{Has, one_if, passing, times}
use Rattle.kt_words.specs.declared.plan.Plan.{Plan}
use Rattle.kt_words.specs.StateWords.{phase_of, number_of}
use Rattle.task_meaning.specs.Worths.{Accepted}
use Rattle.table_core.specs.Addresses.{units_of}
use Rattle.table_core.specs.References.{is_saved, is_record}
use Rattle.table_core.specs.WaitLists.{listed}
use Rattle.table_core.specs.Lists.{Each}
use Rattle.table_core.specs.Asking.{Drawn}
use Rattle.table_core.specs.Holdings.{Run}
use Rattle.table_core.specs.Story.{End}
use Rattle.schedule_rule.specs.Calls.{task_of, after_of, is_number, IsNumber, IsTaskOf, IsLast, IsComplete, ends_of}
use Rattle.schedule_rule.specs.Rows.{drawn_at}

-- numbers of a pass: drawn and in no state word, and taken
pub record NumbersHeld : Type 0 where
  pub drawn : List Drawn
  pub taken : List ℕ

-- 1 where the record at u waits or is ready with the number n
abbrev pub in_state : (ℕ → ℕ) → ℕ → ℕ → ℕ
in_state states n u = cond (is_saved (states u)) (one_if (number_of (states u) == n)) 0

abbrev pub in_hand : ℕ → NumbersHeld → ℕ
in_hand n h = drawn_at n h.drawn + times n h.taken

-- each accepted number stands in one state word, is drawn in one hand, or was taken once
abbrev pub PlacesSound : Plan → List Accepted → (ℕ → ℕ) → List NumbersHeld → Type 0
PlacesSound g calls states vs = (n : ℕ) → below (in_state states n) (units_of g) + total (in_hand n) vs ≡ one_if (is_number calls n)

-- numbers of a pass that are drawn, and its running records
pub record TasksHeld : Type 0 where
  pub drawn : List Drawn
  pub runs : List Run

-- 1 where the record at u waits or is ready and is of the task t; where it is done and of that task
abbrev pub saved_at : (ℕ → ℕ) → (ℕ → ℕ) → ℕ → ℕ → ℕ
saved_at states tasks t u = cond (is_saved (states u)) (one_if (tasks u == t)) 0

abbrev pub done_with : (ℕ → ℕ) → (ℕ → ℕ) → ℕ → ℕ → ℕ
done_with states tasks t u = cond (phase_of (states u) == 5) (one_if (tasks u == t)) 0

-- how often a pass has the first number of the task t, drawn and not placed, or runs the task
abbrev pub in_hands : List Accepted → ℕ → TasksHeld → ℕ
in_hands calls t h = drawn_at t h.drawn + passing (λ r. task_of calls r.number == t) h.runs

pub record OwnersSound (g : Plan) (calls : List Accepted) (ends : List End) (states tasks : ℕ → ℕ) (vs : List TasksHeld) : Type 0 where
  -- a record has an accepted number, and the task word is that of its number
  pub is_of : (u : ℕ) → u < units_of g → is_record (states u) ≡ true → IsNumber calls (number_of (states u)) × (tasks u ≡ task_of calls (number_of (states u)))
  -- a task stands in one saved record, is in one hand, or has ended
  pub once : (t : ℕ) → IsTaskOf calls t → below (saved_at states tasks t) (units_of g) + total (in_hands calls t) vs + ends_of t ends ≡ 1
  -- one done record at most is of a task, and that has ended
  pub done : (t : ℕ) → below (done_with states tasks t) (units_of g) ≤ ends_of t ends
  -- only accepted tasks end
  pub ended : (t : ℕ) → 1 ≤ ends_of t ends → IsTaskOf calls t
  -- a number in a state word, or in none yet, is its task's last
  pub last_saved : (u : ℕ) → u < units_of g → is_saved (states u) ≡ true → IsLast calls (number_of (states u))
  pub last_drawn : Each (λ h. Each (λ (d : Drawn). IsLast calls d.number) h.drawn) vs

-- what a pass says of a running record is so
pub record IsRun (g : Plan) (calls : List Accepted) (r : Run) : Type 0 where
  pub near : r.unit < units_of g
  pub accepted : IsNumber calls r.number
  pub task : r.task ≡ task_of calls r.number
  pub last : r.asked ≡ false → IsLast calls r.number

abbrev pub RunningSound : Plan → List Accepted → List (List Run) → Type 0
RunningSound g calls = Each (Each (IsRun g calls))

-- What waits in a list is behind the task of the list's record; the predecessor of what stands in a chain is complete.
pub record BehindSound (g : Plan) (calls : List Accepted) (ends : List End) (states heads nexts tasks : ℕ → ℕ) (vs : List (List (List ℕ))) : Type 0 where
  pub listed_behind : (u w : ℕ) → u < units_of g → Has w (listed states heads nexts u) → after_of calls (number_of (states w)) ≡ Some (tasks u)
  pub chained_behind : Each (Each (Each (λ w. IfSome (after_of calls (number_of (states w))) (IsComplete ends)))) vs

-- a record that is ready or runs
abbrev pub is_begun : ℕ → Bool
is_begun word = nat_le 3 (phase_of word) && nat_le (phase_of word) 4

-- The predecessor of what is ready or runs is none, or complete.
abbrev pub BegunSound : Plan → List Accepted → List End → (ℕ → ℕ) → Type 0
BegunSound g calls ends states = (u : ℕ) → u < units_of g → is_begun (states u) ≡ true → IfSome (after_of calls (number_of (states u))) (IsComplete ends)
