use Rattle.std.proofs.Common.{false}
use Rattle.table_core.specs.Addresses.{state}
use Rattle.step_table.proofs.PlacingStepping.{TellsMade}
use Rattle.step_table.proofs.shared.Shared.ready_made.Given as goal

abbrev pub ghosts-store_as : goal.ghosts-store_as
ghosts-store_as g a =
    let about = a._about.now in record { at = state about.0.unit; told = λ word w. TellsMade a.self.now.setup a.seat.now.me.0 false about.0 about.1 g.placement word w }
