use Rattle.std.proofs.Common.{◌≡◌}
use Rattle.table_core.specs.Addresses.{sum}
use Rattle.table_core.specs.Views.{saw}
use Rattle.schedule_rule.specs.DrawViews.{saw_live}
use Rattle.step_table.proofs.shared.Shared.see_live.Given as goal

abbrev pub ghosts-load_as : goal.ghosts-load_as
ghosts-load_as a = record { at = sum 1; told = λ r w. w ≡ saw (sum 1) r (saw_live a.self.now.setup.plan.roots r a.seat.now.me.0) }
