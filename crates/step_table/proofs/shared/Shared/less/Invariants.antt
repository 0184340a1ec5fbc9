use Rattle.std.proofs.Common.{◌≡◌}
use Rattle.table_core.specs.Addresses.{refs}
use Rattle.table_core.specs.Views.{saw}
use Rattle.table_core.specs.RecordViews.{lessened}
use Rattle.step_table.proofs.shared.Shared.less.Given as goal

abbrev pub ghosts-fetch_sub_as : goal.ghosts-fetch_sub_as
ghosts-fetch_sub_as a = record { at = refs a._about.now.unit; told = λ r w. w ≡ saw (refs a._about.now.unit) r (lessened a._about.now.unit r a.seat.now.me.0) }
