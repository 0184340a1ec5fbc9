use Rattle.table_core.specs.Addresses.{next}
use Rattle.step_table.proofs.ListStepping.{TellsRest}
use Rattle.step_table.proofs.shared.Shared.unchain.Given as goal

abbrev pub ghosts-load_as : goal.ghosts-load_as
ghosts-load_as a =
    let u = a._about.now in let v = a.seat.now.me.0 in
    record { at = next u; told = TellsRest v u }
