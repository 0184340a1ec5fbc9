use Rattle.std.proofs.Common.{◌≡◌, ◌≤◌, length}
use Rattle.table_core.specs.Addresses.{super}
use Rattle.table_core.specs.Views.{saw}
use Rattle.step_table.proofs.shared.Shared.join.Given as goal

abbrev pub ghosts-load_as : goal.ghosts-load_as
ghosts-load_as a = record { at = super 0; told = λ r w. (w ≡ saw (super 0) r a.seat.now.me.0) × (a.seat.now.me.0.parts ≤ 4096) × (length a.seat.now.me.0.turn ≤ 1) }
