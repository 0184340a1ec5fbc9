use Rattle.std.proofs.Common.{◌≡◌, ℕ}
use Rattle.table_core.specs.Addresses.{state}
use Rattle.table_core.specs.Views.{saw}
use Rattle.table_core.specs.RecordViews.{founded}
use Rattle.step_table.specs.Passes.{block_of}
use Rattle.step_table.proofs.shared.Shared.found.Given as goal

abbrev pub ghosts-store_as : goal.ghosts-store_as
ghosts-store_as a = record { at = state a._about.now.unit; told = λ r w. (n : ℕ) × (w ≡ saw (state a._about.now.unit) n (founded (block_of a._about.now) a.seat.now.me.0)) }
