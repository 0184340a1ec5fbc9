-- What the tests have in the hand.
use Rattle.std.specs.Prelude.{◌≡◌, ℕ, ◌+◌, ◌-◌, ◌<◌, true, false, Option, Some, List, [], ◌∷◌, length, slice_get, slice_index, slice_set}
use Rattle.record_core.specs.Counting.{times, dropped}
use Rattle.kt_words.specs.declared.plan.Plan.{Plan}
use Rattle.table_core.specs.Addresses.{units_of}
use Rattle.table_core.specs.Holdings.{Made as MadeOf, Run as RunOf, Done}
use Rattle.table_core.specs.Views.{first_view}
use Rattle.table_core.specs.WaitViews.{is_run_at}
use Rattle.table_core.specs.declared.setup.Setup.{Setup}
use Rattle.table_core.specs.declared.view.View.{View}
use Rattle.step_table.specs.declared.record_tokens.Finishing.{Finishing}
use Rattle.step_table.specs.declared.record_tokens.Made.{Made}
use Rattle.step_table.specs.declared.record_tokens.Started.{Started}
use Rattle.step_table.specs.Lookups.{done_in}
use Rattle.step_table.specs.RecordHands.{MadeAt, RunAt}
use Rattle.table_records.specs.Makers.{IsMaker}
use Rattle.table_records.specs.Openings.{RootRuns}

-- a record that is done: its list is closed, and it is counted out
abbrev pub over_at : ℕ → Done
over_at u = record { unit = u; closed = true; out = true }

-- so many references to each of eight records are among these
pub record CountsOf (futures : List ℕ) (l : List ℕ) : Type 0 where
  pub eight : length futures ≡ 8
  pub counts : (u : ℕ) → u < 8 → times u l ≡ slice_index futures u

-- the values are of records that are done in the hand, each in the place of its unit
abbrev pub Owns : List (Option Finishing) → List Done → Type 0
Owns own done = (u : ℕ) (f : Finishing) → slice_get own u ≡ Some (Some f) → (f.unit ≡ u) × (done_in u done ≡ Some (over_at u))

-- the pass has so many references to each record, and the scheduler's own to those that are not given up
pub record HasRecords (futures : List ℕ) (own : List (Option Finishing)) (v : View) : Type 0 where
  pub counts : CountsOf futures v.futures
  pub owns : Owns own v.done

-- and it runs none
pub record IsHand (futures : List ℕ) (own : List (Option Finishing)) (v : View) : Type 0 where
  pub records : HasRecords futures own v
  pub idle : v.runs ≡ []

-- one reference more, and one less, to the record at unit u
abbrev pub counted_up : List ℕ → ℕ → List ℕ
counted_up futures u = slice_set futures u (slice_index futures u + 1)

abbrev pub counted_down : List ℕ → ℕ → List ℕ
counted_down futures u = slice_set futures u (slice_index futures u - 1)

-- the record is made and has no number
abbrev pub IsNew : Plan → Made → View → Type 0
IsNew g made v = (r : MadeOf) × MadeAt g made.unit v r × (r.class ≡ made.class) × (r.number ≡ 0) × (r.live ≡ false)

-- the run of the value, by which no number is unplaced
pub record RunsAs (g : Plan) (started : Started) (v : View) (run : RunOf) : Type 0 where
  pub near : started.unit < units_of g
  pub at : RunAt g started.unit v run
  pub number_is : run.number ≡ started.number
  pub placed : run.unplaced ≡ 0

abbrev pub IsRunning : Plan → Started → View → Type 0
IsRunning g started v = (run : RunOf) × RunsAs g started v run

-- and the pass runs no other
abbrev pub IsAlone : Plan → Started → View → Type 0
IsAlone g started v = (run : RunOf) × RunsAs g started v run × (v.runs ≡ run ∷ [])

-- a record that ran is done and settled; the other parts of the hand stay
pub record Settles (u : ℕ) (old new : View) : Type 0 where
  pub runs_are : new.runs ≡ dropped (is_run_at u) old.runs
  pub done_is : new.done ≡ over_at u ∷ old.done
  pub futures_are : new.futures ≡ old.futures
  pub sights_are : new.sights ≡ old.sights
  pub turn_is : new.turn ≡ old.turn
  pub root_task_is : new.root_task ≡ old.root_task

-- a record more runs, and the pass has a reference to it
pub record Runs (g : Plan) (started : Started) (u : ℕ) (old new : View) : Type 0 where
  pub near : u < units_of g
  pub unit_is : started.unit ≡ u
  pub run : RunOf
  pub runs_as : RunsAs g started new run
  pub runs_are : new.runs ≡ run ∷ old.runs
  pub futures_are : new.futures ≡ u ∷ old.futures
  pub done_is : new.done ≡ old.done

-- a record more is done and settled, and the pass has a reference to it
pub record Dones (finishing : Finishing) (u : ℕ) (old new : View) : Type 0 where
  pub unit_is : finishing.unit ≡ u
  pub runs_are : new.runs ≡ old.runs
  pub done_is : new.done ≡ over_at u ∷ old.done
  pub futures_are : new.futures ≡ u ∷ old.futures

-- the pass was opened with the maker, and has nothing else
pub record HasMaker (g : Setup) (maker : Started) (v : View) : Type 0 where
  pub is : IsMaker g maker v
  pub opened : RootRuns g maker first_view v
