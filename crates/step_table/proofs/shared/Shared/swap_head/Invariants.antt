use Rattle.table_core.specs.Addresses.{head}
use Rattle.step_table.proofs.ListStepping.{TellsTaken}
use Rattle.step_table.proofs.shared.Shared.swap_head.Given as goal

abbrev pub ghosts-swap_as : goal.ghosts-swap_as
ghosts-swap_as a = record { at = head a._about.now; told = TellsTaken a.self.now.setup.plan a.seat.now.me.0 a._about.now }
