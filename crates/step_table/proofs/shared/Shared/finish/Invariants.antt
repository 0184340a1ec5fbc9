use Rattle.table_core.specs.Addresses.{state}
use Rattle.step_table.specs.Endings.{outcome_of}
use Rattle.step_table.proofs.ListStepping.{TellsFinish}
use Rattle.step_table.proofs.shared.Shared.finish.Given as goal

abbrev pub ghosts-store_as : goal.ghosts-store_as
ghosts-store_as a = record { at = state a._about.now.0; told = λ n. TellsFinish a.seat.now.me.0 a._about.now.0 (outcome_of a._about.now.1) }
