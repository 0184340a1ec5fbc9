use Rattle.table_core.specs.Addresses.{state}
use Rattle.schedule_rule.specs.TakingViews.{Takes}
use Rattle.step_table.proofs.shared.Shared.take_ready.Given as goal

abbrev pub ghosts-compare_exchange_as : goal.ghosts-compare_exchange_as
ghosts-compare_exchange_as a = let u = a._about.now in record { at = state u; told = Takes a.self.now.setup u a.old a.seat.now.me.0 }
