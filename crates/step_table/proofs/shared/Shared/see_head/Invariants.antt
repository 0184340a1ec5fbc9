use Rattle.std.proofs.Common.{◌≢◌, ◌≤◌}
use Rattle.kt_words.specs.HeadWords.{IsHeadWord, closed_word, length_of}
use Rattle.table_core.specs.Addresses.{head, units_of}
use Rattle.schedule_rule.specs.LifeViews.{SawHeadOf}
use Rattle.step_table.proofs.shared.Shared.see_head.Given as goal

abbrev pub ghosts-load_as : goal.ghosts-load_as
ghosts-load_as a =
    let u = a._about.now in
    record { at = head u; told = λ r w. SawHeadOf u a.seat.now.me.0 r w × IsHeadWord r × (r ≢ closed_word → length_of r ≤ units_of a.self.now.setup.plan) }
