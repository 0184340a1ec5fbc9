use Rattle.table_core.specs.Addresses.{journal}
use Rattle.step_table.proofs.SeeingStepping.{TellsTask}
use Rattle.step_table.proofs.shared.Shared.read_task.Given as goal

abbrev pub ghosts-load_as : goal.ghosts-load_as
ghosts-load_as a = let started = a._about.now in record { at = journal started.number 0; told = TellsTask started.unit started.number a.seat.now.me.0 }
