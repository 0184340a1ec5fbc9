use Rattle.std.proofs.Common.{◌≡◌, ℕ}
use Rattle.table_core.specs.Views.{saw}
use Rattle.table_core.specs.RecordViews.{filled}
use Rattle.step_table.specs.RecordHands.{word_of_record}
use Rattle.step_table.proofs.shared.Shared.fill.Given as goal

abbrev pub ghosts-store_as : goal.ghosts-store_as
ghosts-store_as a =
    let at = word_of_record a._about.now.1 a._about.now.0 in
    record { at = at; told = λ r w. (n : ℕ) × (w ≡ saw at n (filled at r a.seat.now.me.0)) }
