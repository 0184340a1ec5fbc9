-- How many roots were asked for.
use Rattle.std.specs.Prelude.{◌≡◌, ℕ, ◌<◌, List, [], ◌∷◌, length}
use Rattle.record_core.specs.Counting.{At}
use Rattle.table_core.specs.Addresses.{units_of}
use Rattle.table_core.specs.Holdings.{RootSays, Record}
use Rattle.table_core.specs.declared.setup.Setup.{Setup}
use Rattle.table_core.specs.declared.view.View.{View}

-- The pass has the turn, and so many roots are asked for; their records are the table's. No number is drawn for the next one.
pub record HasAsked (g : Setup) (n : ℕ) (v : View) : Type 0 where
  pub asked : List RootSays
  pub has_turn : v.turn ≡ asked ∷ []
  pub count : length asked ≡ n
  pub undrawn : v.root_task ≡ 0
  pub near : (r u : ℕ) → At asked r (Record u) → u < units_of g.plan
