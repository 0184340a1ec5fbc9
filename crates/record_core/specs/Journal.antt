-- The journal of a run: what each call writes into it, and what it keeps.
use Rattle.std.specs.Prelude.{◌≡◌, ℕ, suc, ◌+◌, ◌<◌, ◌≤◌, Bool, true, false, nat_eq, cond, Option, Some, None, IsSome, List, [], ◌∷◌, ◌++◌, length, IfSome}
use Rattle.record_core.specs.Numbers.{by_number, put_number, HasTask}
use Rattle.record_core.specs.Sums.{total}
use Rattle.record_core.specs.declared.rows.ActivationRow.{ActivationRow}
use Rattle.record_core.specs.declared.rows.TaskRow.{TaskRow}
use Rattle.record_core.specs.declared.rows.Cause.{Cause}
use Rattle.record_core.specs.declared.rows.Cause.TheVariants.{Clear, Null, Limit, By}
use Rattle.record_core.specs.declared.rows.CutTag.{CutTag}
use Rattle.record_core.specs.declared.rows.CutTag.TheVariants as cut_tag

-- Both lists go by number. `stamps` counts starts and finishes together, and no more than `limit` numbers are drawn. What
-- `tasks` has at a number that a respawn drew is never written.
pub record JournalState : Type 0 where
  pub rows : List ActivationRow
  pub tasks : List TaskRow
  pub stamps : ℕ
  pub limit : ℕ

abbrev pub empty_journal : ℕ → JournalState
empty_journal limit = record { rows = []; tasks = []; stamps = 0; limit = limit }

-- what is written

abbrev pub task_or : Option ℕ → ℕ → ℕ
task_or None n = n
task_or (Some t) n = t

-- the number that is drawn next
abbrev pub next_number : JournalState → ℕ
next_number j = suc (length j.rows)

abbrev pub unfinished : TaskRow
unfinished = record { finish = None; cause = Clear }

abbrev pub with_accepted : JournalState → Option ℕ → Option ℕ → JournalState
with_accepted j task after = record j {
  rows = j.rows ++ record { task = task_or task (next_number j); after = after; start = None } ∷ [];
  tasks = j.tasks ++ unfinished ∷ [];
}

abbrev pub started_rows : List ActivationRow → ℕ → ℕ → Option ActivationRow → List ActivationRow
started_rows rows n stamp None = rows
started_rows rows n stamp (Some row) = put_number rows n (record row { start = Some stamp })

abbrev pub with_begun : JournalState → ℕ → JournalState
with_begun j n = record j { stamps = j.stamps + 1; rows = started_rows j.rows n (j.stamps + 1) (by_number j.rows n) }

abbrev pub with_finished : JournalState → ℕ → Cause → JournalState
with_finished j t cause = record j { stamps = j.stamps + 1; tasks = put_number j.tasks t (record { finish = Some (j.stamps + 1); cause = cause }) }

-- what is read

abbrev pub start_in : Option ActivationRow → Option ℕ
start_in None = None
start_in (Some row) = row.start

abbrev pub start_of : List ActivationRow → ℕ → Option ℕ
start_of rows n = start_in (by_number rows n)

abbrev pub finish_in : Option TaskRow → Option ℕ
finish_in None = None
finish_in (Some task) = task.finish

abbrev pub finish_of : List TaskRow → ℕ → Option ℕ
finish_of tasks t = finish_in (by_number tasks t)

abbrev pub cause_in : Option TaskRow → Cause
cause_in None = Clear
cause_in (Some task) = task.cause

abbrev pub cause_of : List TaskRow → ℕ → Cause
cause_of tasks t = cause_in (by_number tasks t)

-- how many activations have started, and how many tasks have finished
abbrev pub starts : List ActivationRow → ℕ
starts rows = total (λ (row : ActivationRow). elim row.start [ None ↦ 0 | Some s ↦ 1 ]) rows

abbrev pub finishes : List TaskRow → ℕ
finishes tasks = total (λ (task : TaskRow). elim task.finish [ None ↦ 0 | Some f ↦ 1 ]) tasks

-- how many of these rows, numbered from n on, are the first of their task
abbrev pub tasks_from : ℕ → List ActivationRow → ℕ
tasks_from n [] = 0
tasks_from n (row ∷ rows) = cond (nat_eq row.task n) 1 0 + tasks_from (suc n) rows

abbrev pub task_count : List ActivationRow → ℕ
task_count rows = tasks_from 1 rows

-- stamps

pub data Event : Type 0 where
  Starts : ℕ → Event
  Finishes : ℕ → Event

abbrev pub stamp_of : List ActivationRow → List TaskRow → Event → Option ℕ
stamp_of rows tasks (Starts n) = start_of rows n
stamp_of rows tasks (Finishes t) = finish_of tasks t

-- each number from 1 to `most` is the stamp of exactly one event, and no other number is a stamp
pub record AreStampedOnce (rows : List ActivationRow) (tasks : List TaskRow) (most : ℕ) : Type 0 where
  pub within : (e : Event) (s : ℕ) → stamp_of rows tasks e ≡ Some s → (1 ≤ s) × (s ≤ most)
  pub once : (e f : Event) (s : ℕ) → stamp_of rows tasks e ≡ Some s → stamp_of rows tasks f ≡ Some s → e ≡ f
  pub every : (s : ℕ) → 1 ≤ s → s ≤ most → (e : Event) × (stamp_of rows tasks e ≡ Some s)

-- An activation starts after the task that it is behind has finished. A task's activations start one after the other, in
-- the order of their numbers, and it finishes after all of these starts.
pub record AreInOrder (rows : List ActivationRow) (tasks : List TaskRow) : Type 0 where
  pub behind : (n u s : ℕ) (row : ActivationRow) → by_number rows n ≡ Some row → row.after ≡ Some u → row.start ≡ Some s
      → (f : ℕ) × (finish_of tasks u ≡ Some f) × (f < s)
  pub rise : (n m s : ℕ) (one other : ActivationRow) → n < m → by_number rows n ≡ Some one → by_number rows m ≡ Some other
      → one.task ≡ other.task → other.start ≡ Some s → (q : ℕ) × (one.start ≡ Some q) × (q < s)
  pub before : (n f : ℕ) (row : ActivationRow) → by_number rows n ≡ Some row → finish_of tasks row.task ≡ Some f
      → (s : ℕ) × (row.start ≡ Some s) × (s < f)

-- Activation n belongs to the task that has the number of its own first activation. If it is behind a task, that one was
-- accepted earlier.
pub record IsOfTask (rows : List ActivationRow) (n : ℕ) (row : ActivationRow) : Type 0 where
  pub first : row.task ≤ n
  pub of_task : HasTask rows row.task
  pub after : IfSome row.after (λ u. (u < n) × HasTask rows u)

abbrev pub AreOfTasks : List ActivationRow → Type 0
AreOfTasks rows = (n : ℕ) (row : ActivationRow) → by_number rows n ≡ Some row → IsOfTask rows n row

-- cuts

-- the cause is a refusal of the task itself, of this kind
abbrev pub IsRefusal : CutTag → Cause → Type 0
IsRefusal cut_tag.Null cause = cause ≡ Null
IsRefusal cut_tag.Limit cause = cause ≡ Limit

abbrev pub is_cut : Cause → Bool
is_cut Clear = false
is_cut _ = true

-- Following causes from task t, each to a task that finished earlier, one comes to a refusal of this kind.
pub data Leads (tasks : List TaskRow) (tag : CutTag) : ℕ → Type 0 where
  refused : {t : ℕ} → IsRefusal tag (cause_of tasks t) → Leads tasks tag t
  cut_by : {t : ℕ} (u f g : ℕ) → cause_of tasks t ≡ By u → finish_of tasks u ≡ Some g → finish_of tasks t ≡ Some f → g < f
      → Leads tasks tag u → Leads tasks tag t

-- the last of the activations of task t is behind task u
pub record IsLastBehind (rows : List ActivationRow) (t u : ℕ) : Type 0 where
  pub number : ℕ
  pub row : ActivationRow
  pub there : by_number rows number ≡ Some row
  pub of_task : row.task ≡ t
  pub after : row.after ≡ Some u
  pub last : (m : ℕ) (other : ActivationRow) → by_number rows m ≡ Some other → other.task ≡ t → m ≤ number

-- whoever is cut by a task was last behind that task, and its causes lead to a refusal
abbrev pub CausesLead : List ActivationRow → List TaskRow → Type 0
CausesLead rows tasks = (t u : ℕ) → cause_of tasks t ≡ By u → IsLastBehind rows t u × ((tag : CutTag) × Leads tasks tag t)

-- what holds of every journal, whatever calls were made under their conditions
pub record IsJournal (j : JournalState) : Type 0 where
  pub beside : length j.tasks ≡ length j.rows
  pub within : length j.rows ≤ j.limit
  pub of_tasks : AreOfTasks j.rows
  pub finished : (t f : ℕ) → finish_of j.tasks t ≡ Some f → HasTask j.rows t
  pub stamped : AreStampedOnce j.rows j.tasks j.stamps
  pub counted : j.stamps ≡ starts j.rows + finishes j.tasks
  pub ordered : AreInOrder j.rows j.tasks
  -- all numbers of a task but the last have begun
  pub begun : (n m : ℕ) (one other : ActivationRow) → n < m → by_number j.rows n ≡ Some one → by_number j.rows m ≡ Some other
      → one.task ≡ other.task → IsSome one.start
  -- a cause comes with a finish, and causes lead to a refusal
  pub caused : (t : ℕ) → finish_of j.tasks t ≡ None → cause_of j.tasks t ≡ Clear
  pub led : (t u : ℕ) → cause_of j.tasks t ≡ By u → (tag : CutTag) × Leads j.tasks tag t

-- what a call asks for

abbrev pub HasAllBegun : List ActivationRow → ℕ → Type 0
HasAllBegun rows t = (n : ℕ) (row : ActivationRow) → by_number rows n ≡ Some row → row.task ≡ t → IsSome row.start

-- a task that may draw a further number, or finish
pub record IsUnderWay (j : JournalState) (t : ℕ) : Type 0 where
  pub accepted : HasTask j.rows t
  pub unfinished : finish_of j.tasks t ≡ None
  pub begun : HasAllBegun j.rows t

-- an activation that waits for nothing, and has not begun
pub record MayBegin (j : JournalState) (n : ℕ) : Type 0 where
  pub row : ActivationRow
  pub accepted : by_number j.rows n ≡ Some row
  pub not_begun : row.start ≡ None
  pub free : IfSome row.after (λ u. IsSome (finish_of j.tasks u))

-- a task may only be cut by one that has finished and was cut itself
abbrev pub MayCause : JournalState → Cause → Type 0
MayCause j (By u) = IsSome (finish_of j.tasks u) × (is_cut (cause_of j.tasks u) ≡ true)
MayCause j _ = Unit {0}
