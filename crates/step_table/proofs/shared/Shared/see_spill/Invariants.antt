use Rattle.std.proofs.Common.{◌≡◌}
use Rattle.table_core.specs.Addresses.{sum}
use Rattle.table_core.specs.Views.{saw}
use Rattle.step_table.proofs.shared.Shared.see_spill.Given as goal

abbrev pub ghosts-load_as : goal.ghosts-load_as
ghosts-load_as a = record { at = sum 4; told = λ r w. w ≡ saw (sum 4) r a.seat.now.me.0 }
