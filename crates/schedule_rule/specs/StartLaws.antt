-- What the rule says of all passes together: an activation is taken once at most, no task runs twice, what is ready or runs is behind no
-- task that is not over, and the last number of a task that was taken is not lost.
use Rattle.std.specs.Prelude.{◌≡◌, ℕ, ◌<◌, ◌≤◌, ◌==◌, List, IfSome}
use Rattle.record_core.specs.Sums.{total}
use Rattle.record_core.specs.Counting.{At, passing, times}
use Rattle.kt_words.specs.StateWords.{phase_of, number_of}
use Rattle.table_core.specs.Addresses.{Mem, state, units_of}
use Rattle.table_core.specs.Holdings.{Run}
use Rattle.table_core.specs.Lists.{Each}
use Rattle.table_core.specs.Story.{Story}
use Rattle.table_core.specs.declared.setup.Setup.{Setup}
use Rattle.table_core.specs.declared.view.View.{View}
use Rattle.schedule_rule.specs.Calls.{task_of, after_of, ends_of, IsNumber, IsLast, IsComplete}
use Rattle.schedule_rule.specs.Parts.{AllSay}

-- each accepted number is taken at most once, by all passes together; no other number is taken
abbrev pub NumbersAreTakenOnce : Type 0
NumbersAreTakenOnce = (g : Setup) (s : Story) (m : Mem) (vs : List View) (n : ℕ) → AllSay g s m vs → (total (λ v. times n v.taken) vs ≤ 1) × (1 ≤ total (λ v. times n v.taken) vs → IsNumber s.calls n)

-- no two runs are of one task, in one hand or in two
abbrev pub TasksRunOnce : Type 0
TasksRunOnce = (g : Setup) (s : Story) (m : Mem) (vs : List View) (t : ℕ) → AllSay g s m vs → total (λ v. passing (λ (r : Run). r.task == t) v.runs) vs ≤ 1

-- the predecessor of what runs is none, or complete
abbrev pub RunsAreBehindNone : Type 0
RunsAreBehindNone = (g : Setup) (s : Story) (m : Mem) (vs : List View) (id : ℕ) (v : View) → AllSay g s m vs → At vs id v → Each (λ (r : Run). IfSome (after_of s.calls r.number) (IsComplete s.ends)) v.runs

-- and so is that of a record that is ready
abbrev pub ReadyAreBehindNone : Type 0
ReadyAreBehindNone = (g : Setup) (s : Story) (m : Mem) (vs : List View) (u : ℕ) → AllSay g s m vs → u < units_of g.plan → phase_of (m (state u)) ≡ 3 → IfSome (after_of s.calls (number_of (m (state u)))) (IsComplete s.ends)

-- where the last number of a task was taken, one run has it, or the task is over
abbrev pub TakenRunsOrIsOver : Type 0
TakenRunsOrIsOver = (g : Setup) (s : Story) (m : Mem) (vs : List View) (n : ℕ) → AllSay g s m vs → 1 ≤ total (λ v. times n v.taken) vs → IsLast s.calls n → ends_of (task_of s.calls n) s.ends ≡ 0
    → total (λ v. passing (λ (r : Run). r.number == n) v.runs) vs ≡ 1
