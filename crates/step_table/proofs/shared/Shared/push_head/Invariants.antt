use Rattle.table_core.specs.Addresses.{head}
use Rattle.step_table.proofs.ListStepping.{TellsPush}
use Rattle.step_table.proofs.shared.Shared.push_head.Given as goal

abbrev pub ghosts-compare_exchange_as : goal.ghosts-compare_exchange_as
ghosts-compare_exchange_as a =
    let u = a._about.now.0 in let w = a._about.now.1 in
    record { at = head u; told = TellsPush a.self.now.setup.plan a.seat.now.me.0 u w a.old }
