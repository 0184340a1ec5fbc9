-- The records of a hand by their units.
use Rattle.std.specs.Prelude.{ℕ, List, [], ◌∷◌, Bool, cond, Option, Some, None}
use Rattle.table_core.specs.Holdings.{Made, Waiter, Run, Done}
use Rattle.table_core.specs.RecordViews.{is_made_at, is_done_at}
use Rattle.table_core.specs.WaitViews.{is_waiter_at, is_run_at}

-- the first member that passes, where one does
abbrev pub first_by : {A : Type 0} → (A → Bool) → List A → Option A
first_by p [] = None
first_by p (x ∷ xs) = cond (p x) (Some x) (first_by p xs)

-- the record of the hand at this unit, where there is one: made, waiting in no list, running, done
abbrev pub made_in : ℕ → List Made → Option Made
made_in u = first_by (is_made_at u)

abbrev pub waiter_in : ℕ → List Waiter → Option Waiter
waiter_in u = first_by (is_waiter_at u)

abbrev pub run_in : ℕ → List Run → Option Run
run_in u = first_by (is_run_at u)

abbrev pub done_in : ℕ → List Done → Option Done
done_in u = first_by (is_done_at u)
