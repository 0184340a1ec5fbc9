use Rattle.std.proofs.Common.{◌≡◌}
use Rattle.table_core.specs.Addresses.{sum}
use Rattle.table_core.specs.Views.{saw}
use Rattle.schedule_rule.specs.LifeViews.{counted_in}
use Rattle.step_table.proofs.shared.Shared.live_up.Given as goal

abbrev pub ghosts-fetch_add_as : goal.ghosts-fetch_add_as
ghosts-fetch_add_as a = record { at = sum 1; told = λ r w. w ≡ saw (sum 1) r (counted_in a._about.now.unit a.seat.now.me.0) }
