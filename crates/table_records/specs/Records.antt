-- What the calls tell that make records.
use Rattle.std.specs.Prelude.{◌≡◌, ℕ, ◌+◌, ◌<◌, ◌≤◌, Bool, Option, Some, None, ◌∷◌}
use Rattle.table_core.specs.Addresses.{units_of}
use Rattle.table_core.specs.Holdings.{SawTask}
use Rattle.table_core.specs.Story.{IsAccepted}
use Rattle.table_core.specs.declared.setup.Setup.{Setup}
use Rattle.table_core.specs.declared.view.View.{View}
use Rattle.schedule_rule.specs.PlacingViews.{kept_sights, waiting_with}
use Rattle.table_records.specs.Plain.{call_behind}

-- so many references, and one more where a record was made
abbrev pub one_more : {X : Type 0} → ℕ → Option X → ℕ
one_more held None = held
one_more held (Some x) = held + 1

-- the view with a record more that waits or is ready at the unit, under the number, behind a task or none: the pass has a reference to
-- it and has seen its task, and all else that it has stays
abbrev pub Spawned : Bool → ℕ → ℕ → Option ℕ → View → View → Type 0
Spawned waits u n behind old new = new ≡ record old {
  looks = new.looks;
  wins = new.wins;
  waiting = waiting_with waits u n old.waiting;
  known = new.known;
  futures = u ∷ old.futures;
  sights = SawTask u n ∷ kept_sights (u ∷ old.futures) old.sights;
  calls = (n, call_behind behind) ∷ old.calls;
  facts = IsAccepted n (call_behind behind) ∷ old.facts;
  may_draw = 0;
  placings = new.placings;
  seen = new.seen;
}

-- such a record was made
pub record Spawns (g : Setup) (waits : Bool) (u : ℕ) (behind : Option ℕ) (old : View) (n : ℕ) (new : View) : Type 0 where
  pub near : u < units_of g.plan
  pub within : (1 ≤ n) × (n ≤ g.plan.limit)
  pub view_is : Spawned waits u n behind old new
