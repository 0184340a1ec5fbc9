-- What the rule says of waiting records in other words.
use Rattle.std.specs.Prelude.{◌≡◌, ℕ, ◌<◌, List}
use Rattle.record_core.specs.Counting.{At}
use Rattle.kt_words.specs.StateWords.{phase_of}
use Rattle.table_core.specs.Addresses.{Mem, state, head, next, units_of}
use Rattle.table_core.specs.Holdings.{Waiter}
use Rattle.table_core.specs.WaitLists.{listed}
use Rattle.table_core.specs.Parts.{Lawful}
use Rattle.table_core.specs.declared.setup.Setup.{Setup}
use Rattle.table_core.specs.declared.view.View.{View}

-- A place where a record may stand while it waits: in the list of the record at a unit, in a chain that a pass took, or alone in
-- a pass's hand. Passes, chains and members are named by their positions.
pub data Standing : Type 0 where
  InList : (unit member : ℕ) → Standing
  InChain : (pass chain member : ℕ) → Standing
  InHand : (pass waiter : ℕ) → Standing

-- member k of a chain of a pass is the record at w
pub record IsInChain (chains : List (List ℕ)) (c k w : ℕ) : Type 0 where
  pub members : List ℕ
  pub chain : At chains c members
  pub there : At members k w

-- waiter k of a pass is the record at w
pub record IsWaiter (waiting : List Waiter) (k w : ℕ) : Type 0 where
  pub waiter : Waiter
  pub there : At waiting k waiter
  pub unit_is : waiter.unit ≡ w

module _ (g : Setup) (m : Mem) (vs : List View) where
  -- the record at w stands there
  abbrev pub StandsAt : ℕ → Standing → Type 0
  StandsAt w (InList u k) = (u < units_of g.plan) × At (listed (λ x. m (state x)) (λ x. m (head x)) (λ x. m (next x)) u) k w
  StandsAt w (InChain p c k) = (v : View) × At vs p v × IsInChain v.chains c k w
  StandsAt w (InHand p k) = (v : View) × At vs p v × IsWaiter v.waiting k w

-- a record that waits stands in one place, and in no other
abbrev pub WaitersStandOnce : Type 0
WaitersStandOnce = (g : Setup) (m : Mem) (vs : List View) → Lawful g m vs → (w : ℕ) → w < units_of g.plan → phase_of (m (state w)) ≡ 2
    → (p : Standing) × StandsAt g m vs w p × ((q : Standing) → StandsAt g m vs w q → q ≡ p)

-- what stands in a place is a record that waits
abbrev pub OnlyWaitersStand : Type 0
OnlyWaitersStand = (g : Setup) (m : Mem) (vs : List View) → Lawful g m vs → (w : ℕ) (p : Standing) → StandsAt g m vs w p
    → (w < units_of g.plan) × (phase_of (m (state w)) ≡ 2)
