-- What is written into a journal keeps it a journal, and what its end has.
use Rattle.std.specs.Prelude.{◌≡◌, ℕ, ◌+◌, ◌<◌, Option, Some, None, IsSome, IfSome, length}
use Rattle.task_syntax.specs.Places.{Each}
use Rattle.record_core.specs.Numbers.{by_number, HasTask}
use Rattle.record_core.specs.Journal.{JournalState, empty_journal, with_accepted, with_begun, with_finished, IsJournal, IsUnderWay, MayBegin, MayCause, Event, stamp_of, task_or, next_number, task_count, start_of, finish_of, cause_of}
use Rattle.record_core.specs.declared.rows.ActivationRow.{ActivationRow}
use Rattle.record_core.specs.declared.rows.Cause.{Cause}

abbrev pub EmptyIsJournal : Type 0
EmptyIsJournal = (limit : ℕ) → IsJournal (empty_journal limit)

abbrev pub AcceptKeepsJournal : Type 0
AcceptKeepsJournal = (j : JournalState) (task after : Option ℕ) → IsJournal j → length j.rows < j.limit
    → IfSome task (λ t. IsUnderWay j t) → IfSome after (λ u. HasTask j.rows u) → IsJournal (with_accepted j task after)

abbrev pub BeginKeepsJournal : Type 0
BeginKeepsJournal = (j : JournalState) (n : ℕ) → IsJournal j → MayBegin j n → IsJournal (with_begun j n)

abbrev pub FinishKeepsJournal : Type 0
FinishKeepsJournal = (j : JournalState) (t : ℕ) (cause : Cause) → IsJournal j → IsUnderWay j t → MayCause j cause
    → IsJournal (with_finished j t cause)

-- where all has started and finished, there are as many stamps as activations and tasks
abbrev pub AllStampsAreWritten : Type 0
AllStampsAreWritten = (j : JournalState) → IsJournal j → Each j.rows (λ (row : ActivationRow). IsSome row.start)
    → ((t : ℕ) → HasTask j.rows t → IsSome (finish_of j.tasks t)) → j.stamps ≡ length j.rows + task_count j.rows

-- what stands in a journal stays: tasks and predecessors of activations, stamps, and causes of finished tasks
pub record GrowsFrom (j k : JournalState) : Type 0 where
  pub rows : (n : ℕ) (row : ActivationRow) → by_number j.rows n ≡ Some row → (start : Option ℕ) × (by_number k.rows n ≡ Some (record row { start = start }))
  pub stamps : (e : Event) (s : ℕ) → stamp_of j.rows j.tasks e ≡ Some s → stamp_of k.rows k.tasks e ≡ Some s
  pub causes : (t f : ℕ) → finish_of j.tasks t ≡ Some f → cause_of k.tasks t ≡ cause_of j.tasks t

-- a further activation is told with its task and its predecessor, a start and a finish with the next stamp, a finish with its cause
pub record TellsAccepted (j k : JournalState) (task after : Option ℕ) : Type 0 where
  pub grows : GrowsFrom j k
  pub row : by_number k.rows (next_number j) ≡ Some (record { task = task_or task (next_number j); after = after; start = None })

pub record TellsBegun (j k : JournalState) (n : ℕ) : Type 0 where
  pub grows : GrowsFrom j k
  pub start : start_of k.rows n ≡ Some (j.stamps + 1)

pub record TellsFinished (j k : JournalState) (t : ℕ) (cause : Cause) : Type 0 where
  pub grows : GrowsFrom j k
  pub finish : finish_of k.tasks t ≡ Some (j.stamps + 1)
  pub cause_told : cause_of k.tasks t ≡ cause

abbrev pub AcceptTells : Type 0
AcceptTells = (j : JournalState) (task after : Option ℕ) → TellsAccepted j (with_accepted j task after) task after

abbrev pub BeginTells : Type 0
BeginTells = (j : JournalState) (n : ℕ) → IsJournal j → MayBegin j n → TellsBegun j (with_begun j n) n

abbrev pub FinishTells : Type 0
FinishTells = (j : JournalState) (t : ℕ) (cause : Cause) → IsJournal j → IsUnderWay j t → MayCause j cause
    → TellsFinished j (with_finished j t cause) t cause
