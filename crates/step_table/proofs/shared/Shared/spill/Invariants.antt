use Rattle.std.proofs.Common.{◌≡◌, ℕ}
use Rattle.table_core.specs.Addresses.{sum}
use Rattle.table_core.specs.Views.{saw}
use Rattle.step_table.proofs.shared.Shared.spill.Given as goal

abbrev pub ghosts-store_as : goal.ghosts-store_as
ghosts-store_as a = record { at = sum 4; told = λ r w. (n : ℕ) × (w ≡ saw (sum 4) n a.seat.now.me.0) }
