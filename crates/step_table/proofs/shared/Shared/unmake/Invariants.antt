use Rattle.std.proofs.Common.{◌≡◌, ℕ}
use Rattle.table_core.specs.Addresses.{state}
use Rattle.table_core.specs.Views.{saw}
use Rattle.table_core.specs.RecordViews.{unmade}
use Rattle.step_table.proofs.shared.Shared.unmake.Given as goal

abbrev pub ghosts-store_as : goal.ghosts-store_as
ghosts-store_as a = record { at = state a._about.now.unit; told = λ r w. (n : ℕ) × (w ≡ saw (state a._about.now.unit) n (unmade a._about.now.unit a._about.now.class a.seat.now.me.0)) }
