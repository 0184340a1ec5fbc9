-- What is taken from the queues, and the waiters that may join them.
use Rattle.std.specs.Prelude.{◌≡◌, ℕ, Option, Some, None, List, length, slice_get}
use Rattle.task_syntax.specs.Places.{Each}
use Rattle.run_model.specs.State.{Queues, next_queued}
use Rattle.plain_state.specs.declared.record.Record.{Record}
use Rattle.plain_state.specs.Store.{StoreState, HasUnit, HasPlaces, Chained}

-- the first of the highest queue that has one is taken, or there is none and nothing changes
abbrev pub IsTaken : StoreState → Option ℕ → StoreState → Type 0
IsTaken old None new = (next_queued old.ready ≡ None) × (new ≡ old)
IsTaken old (Some unit) new = (left : Queues) × (next_queued old.ready ≡ Some (unit, left)) × (new ≡ record old { ready = left })

-- these are the waiters from the first on, and there is a place for each in the queues
pub record MayWake (s : StoreState) (first : Option ℕ) (waiters : List ℕ) : Type 0 where
  pub chain : Chained s.records first waiters
  pub inside : Each waiters (HasUnit s)
  pub places : HasPlaces s (length waiters)

-- the task behind this one in the list that it stands in
abbrev pub IsNextOf : StoreState → ℕ → Option ℕ → Type 0
IsNextOf s unit next = (known : Record) × (slice_get s.records unit ≡ Some known) × (known.next ≡ next)
