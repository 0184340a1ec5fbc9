use Rattle.std.proofs.Common.{true}
use Rattle.table_core.specs.Addresses.{state}
use Rattle.step_table.proofs.PlacingStepping.{TellsNext}
use Rattle.step_table.proofs.shared.Shared.wait_again.Given as goal

abbrev pub ghosts-store_as : goal.ghosts-store_as
ghosts-store_as a =
    let about = a._about.now in record { at = state about.0.unit; told = λ word w. TellsNext a.self.now.setup a.seat.now.me.0 true about.0.unit about.1 about.2.now word w }
