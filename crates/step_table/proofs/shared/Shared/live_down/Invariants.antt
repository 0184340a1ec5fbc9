use Rattle.std.proofs.Common.{◌≡◌}
use Rattle.table_core.specs.Addresses.{sum}
use Rattle.table_core.specs.Views.{saw}
use Rattle.schedule_rule.specs.LifeViews.{counted_out}
use Rattle.step_table.proofs.shared.Shared.live_down.Given as goal

abbrev pub ghosts-fetch_sub_as : goal.ghosts-fetch_sub_as
ghosts-fetch_sub_as a = record { at = sum 1; told = λ r w. w ≡ saw (sum 1) r (counted_out a._about.now.unit a.seat.now.me.0) }
