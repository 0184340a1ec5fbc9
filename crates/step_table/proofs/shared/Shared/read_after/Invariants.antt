use Rattle.table_core.specs.Addresses.{journal}
use Rattle.step_table.proofs.SeeingStepping.{TellsAfter}
use Rattle.step_table.proofs.shared.Shared.read_after.Given as goal

abbrev pub ghosts-load_as : goal.ghosts-load_as
ghosts-load_as a =
    let started = a._about.now in record { at = journal started.number 1; told = TellsAfter a.self.now.setup.plan.limit started.number a.seat.now.me.0 }
