-- What the calls need and leave that take or give up the references of a list of units.
use Rattle.std.specs.Prelude.{◌≡◌, ℕ, ◌<◌, ◌≤◌, List, ◌++◌, length}
use Rattle.record_core.specs.Counting.{Has, times}
use Rattle.kt_words.specs.declared.plan.Plan.{Plan}
use Rattle.table_core.specs.Addresses.{Addr, head, units_of}
use Rattle.table_core.specs.Lists.{Each}
use Rattle.table_core.specs.declared.setup.Setup.{Setup}
use Rattle.table_core.specs.declared.view.View.{View}
use Rattle.schedule_rule.specs.Frames.{BagSound}
use Rattle.schedule_rule.specs.PlacingViews.{less}
use Rattle.step_table.specs.RecordHands.{HasFuture}

-- the list is the old one with newer members before it
abbrev pub Grows : {A : Type 0} → List A → List A → Type 0
Grows {A} old new = (more : List A) × (new ≡ more ++ old)

-- the pass has a reference to each of these records
abbrev pub HasEach : Plan → List ℕ → View → Type 0
HasEach g units v = Each (λ u. HasFuture g u v) units

-- the pass has one reference more for each of these units, and nothing else has changed
pub record TakesEach (units : List ℕ) (old new : View) : Type 0 where
  pub front : List ℕ
  pub counts : (w : ℕ) → times w front ≡ times w units
  pub long : length front ≡ length units
  pub seen : Grows old.seen new.seen
  pub view_is : new ≡ record old { futures = front ++ old.futures; seen = new.seen }

-- The pass has a reference for each of these units, and without them it has enough for its running frames.
pub record MayDropEach (g : Setup) (units : List ℕ) (v : View) : Type 0 where
  pub near : Each (λ u. u < units_of g.plan) units
  pub there : (w : ℕ) → times w units ≤ times w v.futures
  pub bag : BagSound g.checked (record { futures = less v.futures units; runs = v.runs })

-- none of these steps is on the head of a list
abbrev pub NoHeads : List (Addr × ℕ) → Type 0
NoHeads steps = (u word : ℕ) → ¬ Has (head u, word) steps

-- The references are given up, without a look at a list. What was seen of records without one goes, and the places of the blocks that were
-- freed are settled beside those that were before.
pub record DropsEach (units : List ℕ) (old new : View) : Type 0 where
  pub settles : Grows old.settles new.settles
  pub seen : Grows old.seen new.seen
  pub elsewhere : NoHeads seen.0
  pub view_is : new ≡ record old { futures = less old.futures units; sights = new.sights; settles = new.settles; seen = new.seen }
