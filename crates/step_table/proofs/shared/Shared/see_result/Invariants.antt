use Rattle.kt_words.specs.StateWords.{packed_state}
use Rattle.table_core.specs.Addresses.{outcome}
use Rattle.schedule_rule.specs.SeeingViews.{TellsResult}
use Rattle.step_table.proofs.shared.Shared.see_result.Given as goal

abbrev pub ghosts-load_as : goal.ghosts-load_as
ghosts-load_as a = let about = a._about.now in record { at = outcome about.0; told = TellsResult about.0 (packed_state about.1) a.seat.now.me.0 }
