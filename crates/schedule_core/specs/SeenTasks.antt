-- What is seen of the tasks of records.
use Rattle.std.specs.Prelude.{◌≡◌, ℕ, ◌==◌, Option, Some, None, cond, List, [], ◌∷◌}
use Rattle.record_core.specs.Counting.{At}
use Rattle.table_core.specs.Holdings.{Sight, SawHead, SawTask, SawDone}
use Rattle.table_core.specs.Addresses.{task}
use Rattle.table_core.specs.Story.{IsTask}
use Rattle.table_core.specs.Views.{saw}
use Rattle.table_core.specs.declared.view.View.{View}
use Rattle.schedule_rule.specs.LifeViews.{knowing}
use Rattle.schedule_rule.specs.SeeingViews.{saw_task}
use Rattle.schedule_core.specs.References.{Grows}
use Rattle.schedule_core.specs.declared.making.Behind.{Behind}

-- the task that was seen last at a record
abbrev pub task_seen : ℕ → List Sight → Option ℕ
task_seen u [] = None
task_seen u (SawTask w t ∷ more) = cond (w == u) (Some t) (task_seen u more)
task_seen u (SawHead w h ∷ more) = task_seen u more
task_seen u (SawDone w h ∷ more) = task_seen u more

-- the unit of a predecessor, if there is one
abbrev pub unit_behind : Option Behind → Option ℕ
unit_behind None = None
unit_behind (Some b) = Some b.unit

-- the task of each of these records was seen, and nothing else has changed
pub record SeesEach (units : List ℕ) (old new : View) : Type 0 where
  pub each : (k u : ℕ) → At units k u → (t : ℕ) × (task_seen u new.sights ≡ Some t)
  pub sights : Grows old.sights new.sights
  pub facts : Grows old.facts new.facts
  pub seen : Grows old.seen new.seen
  pub view_is : new ≡ record old { sights = new.sights; facts = new.facts; seen = new.seen }

-- the task of the predecessor, if there is one, was seen at its record
abbrev pub with_behind : Option Behind → View → View
with_behind None v = v
with_behind (Some b) v = knowing (IsTask b.task ∷ []) (saw (task b.unit) b.task (saw_task b.unit b.task v))
