-- What a pass has that asks for roots.
use Rattle.std.specs.Prelude.{◌≡◌, ◌≢◌, ℕ, ◌<◌, ◌≤◌, List, [], ◌∷◌, Some}
use Rattle.record_core.specs.Counting.{Has}
use Rattle.kt_words.specs.declared.plan.Plan.{Plan}
use Rattle.table_core.specs.Addresses.{units_of}
use Rattle.table_core.specs.Holdings.{RootSays, SawTask}
use Rattle.table_core.specs.declared.view.View.{View}
use Rattle.step_table.specs.Lookups.{done_in}
use Rattle.reference_rows.specs.Hands.{over_at}

-- No root was asked for. The record at the unit is that of the task of the first root; it is done, and the pass has one reference, to it.
pub record MayBeFirst (g : Plan) (u : ℕ) (v : View) : Type 0 where
  pub near : u < units_of g
  pub turn_is : v.turn ≡ [] ∷ []
  pub drawn : v.root_task ≢ 0
  pub sees : Has (SawTask u v.root_task) v.sights
  pub idle : v.runs ≡ []
  pub refers : v.futures ≡ u ∷ []
  pub over : done_in u v.done ≡ Some (over_at u)

-- This is said of the roots that were asked for. The record at the unit is done, and the pass has these references.
pub record HasRoots (g : Plan) (u : ℕ) (asked : List RootSays) (futures : List ℕ) (v : View) : Type 0 where
  pub near : u < units_of g
  pub turn_is : v.turn ≡ asked ∷ []
  pub undrawn : v.root_task ≡ 0
  pub idle : v.runs ≡ []
  pub refers : v.futures ≡ futures
  pub over : done_in u v.done ≡ Some (over_at u)
