-- What a run keeps of its numbers: where each that has not started waits, and which number of a task is live.
use Rattle.std.specs.Prelude.{◌≡◌, ◌↔◌, ℕ, ◌+◌, ◌≤◌, ◌⊎◌, cond, nat_eq, Option, Some, None, IsSome, List, [], length, slice_get}
use Rattle.task_syntax.specs.declared.value.Priority.{Priority}
use Rattle.task_meaning.specs.Meant.{future_at}
use Rattle.task_meaning.specs.Worths.{Accepted}
use Rattle.pool_core.specs.Blocks.{BlockState}
use Rattle.frame_code.specs.Words.{OfKind, OfMembers}
use Rattle.record_core.specs.Sums.{total}
use Rattle.record_core.specs.Numbers.{by_number, found, HasTask}
use Rattle.record_core.specs.Journal.{JournalState, finish_of, AreOfTasks}
use Rattle.record_core.specs.declared.rows.ActivationRow.{ActivationRow}
use Rattle.record_core.specs.declared.rows.TaskRow.{TaskRow}
use Rattle.run_model.specs.State.{Body, Outcome, Queues, Run, RootWord, Named}
use Rattle.run_model.specs.Step.{waiters_of}

-- how often n stands in a list, and in the queues
abbrev pub times : ℕ → List ℕ → ℕ
times n xs = total (λ x. cond (nat_eq x n) 1 0) xs

abbrev pub times_ready : ℕ → Queues → ℕ
times_ready n q = times n q.high + times n q.regular + times n q.low

abbrev pub not_started : Option ActivationRow → ℕ
not_started None = 0
not_started (Some row) = elim row.start [ None ↦ 1 | Some s ↦ 0 ]

-- A number without a start stands in one place: in a queue, among the waiters of one task, or in the hand of the move that
-- is being made. A waiter of a task is behind it, and the task is unfinished; a queued one is behind none or a finished task.
pub record Numbers (rows : List ActivationRow) (tasks : List TaskRow) (waiters : List (List ℕ)) (ready : Queues) (hand : List ℕ) : Type 0 where
  pub each : (n : ℕ) → times n hand + total (times n) waiters + times_ready n ready ≡ not_started (by_number rows n)
  pub behind : (n u : ℕ) (row : ActivationRow) → by_number rows n ≡ Some row → 1 ≤ times n (waiters_of waiters u) → (row.after ≡ Some u) × (finish_of tasks u ≡ None)
  pub free : (n u : ℕ) (row : ActivationRow) → by_number rows n ≡ Some row → 1 ≤ times_ready n ready → row.after ≡ Some u → IsSome (finish_of tasks u)

-- n is the live number of task t: it has not started, or it runs
pub record IsLiveAt (rows : List ActivationRow) (running : Option ℕ) (t n : ℕ) (row : ActivationRow) : Type 0 where
  pub there : by_number rows n ≡ Some row
  pub of_task : row.task ≡ t
  pub live : (row.start ≡ None) ⊎ (running ≡ Some n)

abbrev pub IsLive : Run → ℕ → ℕ → ActivationRow → Type 0
IsLive r t n row = IsLiveAt r.journal.rows r.running t n row

-- An unfinished task has a body and one live number, the last of its numbers; a finished one has an outcome. Nothing else
-- has a body or an outcome.
pub record Live (rows : List ActivationRow) (tasks : List TaskRow) (outcomes : List (Option Outcome)) (bodies : List (Option Body)) (running : Option ℕ) : Type 0 where
  pub of_task : (t : ℕ) → IsSome (found bodies t) → HasTask rows t
  pub has_body : (t : ℕ) → HasTask rows t → IsSome (found bodies t) ↔ (finish_of tasks t ≡ None)
  pub has_outcome : (t : ℕ) → IsSome (found outcomes t) ↔ IsSome (finish_of tasks t)
  pub current : (t : ℕ) → HasTask rows t → finish_of tasks t ≡ None → (n : ℕ) × (row : ActivationRow) × IsLiveAt rows running t n row
  pub is_open : (t n : ℕ) (row : ActivationRow) → IsLiveAt rows running t n row → finish_of tasks t ≡ None
  pub last : (t n m : ℕ) (row other : ActivationRow) → IsLiveAt rows running t n row → by_number rows m ≡ Some other → other.task ≡ t → m ≤ n
  pub runs : (n : ℕ) → running ≡ Some n → (row : ActivationRow) × (by_number rows n ≡ Some row) × IsSome row.start

-- the lists by number are as long as the rows
pub record Beside (j : JournalState) (calls : List Accepted) (priorities : List Priority) (outcomes : List (Option Outcome)) (waiters : List (List ℕ))
    (bodies : List (Option Body)) (blocks : List (Option BlockState)) : Type 0 where
  pub of_tasks : length j.tasks ≡ length j.rows
  pub of_calls : length calls ≡ length j.rows
  pub of_priorities : length priorities ≡ length j.rows
  pub of_outcomes : length outcomes ≡ length j.rows
  pub of_waiters : length waiters ≡ length j.rows
  pub of_bodies : length bodies ≡ length j.rows
  pub of_blocks : length blocks ≡ length j.rows

-- a body names task u
abbrev pub BodyNames : Body → ℕ → Type 0
BodyNames (OfKind q) u = (x : ℕ) × (future_at q.futures x ≡ Some u)
BodyNames (OfMembers members next) u = (at : ℕ) × (slice_get members at ≡ Some u)

-- what a body or a root names is a task, and no two roots have the same
pub record NamesTasks (rows : List ActivationRow) (bodies : List (Option Body)) (roots : List RootWord) : Type 0 where
  pub in_bodies : (t u : ℕ) (body : Body) → found bodies t ≡ Some body → BodyNames body u → HasTask rows u
  pub in_roots : (at t : ℕ) → slice_get roots at ≡ Some (Named t) → HasTask rows t
  pub once : (i j t : ℕ) → slice_get roots i ≡ Some (Named t) → slice_get roots j ≡ Some (Named t) → i ≡ j

-- the group
pub record NumbersHeld (r : Run) (hand : List ℕ) : Type 0 where
  pub beside : Beside r.journal r.calls r.priorities r.outcomes r.waiters r.bodies r.blocks
  pub of_tasks : AreOfTasks r.journal.rows
  pub numbers : Numbers r.journal.rows r.journal.tasks r.waiters r.ready hand
  pub live : Live r.journal.rows r.journal.tasks r.outcomes r.bodies r.running
  pub names : NamesTasks r.journal.rows r.bodies r.roots

abbrev pub NumbersStand : Run → Type 0
NumbersStand r = NumbersHeld r []
