use Rattle.std.proofs.Common.{◌≡◌}
use Rattle.table_core.specs.Addresses.{refs}
use Rattle.table_core.specs.Views.{saw}
use Rattle.table_core.specs.RecordViews.{referred}
use Rattle.step_table.proofs.shared.Shared.more.Given as goal

abbrev pub ghosts-fetch_add_as : goal.ghosts-fetch_add_as
ghosts-fetch_add_as a = record { at = refs a._about.now.unit; told = λ r w. w ≡ saw (refs a._about.now.unit) r (referred a._about.now.unit a.seat.now.me.0) }
