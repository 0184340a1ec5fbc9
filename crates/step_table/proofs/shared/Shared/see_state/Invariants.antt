use Rattle.std.proofs.Common.{◌≡◌}
use Rattle.kt_words.specs.StateWords.{IsStateWord}
use Rattle.table_core.specs.Addresses.{state}
use Rattle.table_core.specs.Views.{saw}
use Rattle.table_core.specs.RecordViews.{saw_state}
use Rattle.step_table.proofs.shared.Shared.see_state.Given as goal

abbrev pub ghosts-load_as : goal.ghosts-load_as
ghosts-load_as a = record { at = state a._about.now; told = λ r w. (w ≡ saw (state a._about.now) r (saw_state a._about.now r a.seat.now.me.0)) × IsStateWord r }
