use Rattle.std.proofs.Common.{◌≡◌}
use Rattle.table_core.specs.Addresses.{refs}
use Rattle.table_core.specs.Views.{saw}
use Rattle.table_core.specs.RecordViews.{gave_up}
use Rattle.step_table.proofs.shared.Shared.give_up.Given as goal

abbrev pub ghosts-fetch_sub_as : goal.ghosts-fetch_sub_as
ghosts-fetch_sub_as a = record { at = refs a._about.now.unit; told = λ r w. w ≡ saw (refs a._about.now.unit) r (gave_up a._about.now.unit r a.seat.now.me.0) }
