use Rattle.std.proofs.Common.{◌≡◌}
use Rattle.table_core.specs.Addresses.{refs}
use Rattle.table_core.specs.Views.{saw}
use Rattle.table_core.specs.RecordViews.{referred}
use Rattle.step_table.proofs.shared.Shared.more_root.Given as goal

abbrev pub ghosts-fetch_add_as : goal.ghosts-fetch_add_as
ghosts-fetch_add_as a = record { at = refs a._about.now.1; told = λ r w. w ≡ saw (refs a._about.now.1) r (referred a._about.now.1 a.seat.now.me.0) }
