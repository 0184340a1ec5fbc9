use Rattle.kt_words.specs.StateWords.{IsStateWord}
use Rattle.table_core.specs.Addresses.{state}
use Rattle.schedule_rule.specs.SeeingViews.{SawStateOf}
use Rattle.step_table.proofs.shared.Shared.see_done.Given as goal

abbrev pub ghosts-load_as : goal.ghosts-load_as
ghosts-load_as a = let u = a._about.now.unit in record { at = state u; told = λ r w. SawStateOf u a.seat.now.me.0 r w × IsStateWord r }
