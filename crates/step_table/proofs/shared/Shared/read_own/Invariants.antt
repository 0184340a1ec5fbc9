use Rattle.std.proofs.Common.{◌≡◌, ℕ, Some}
use Rattle.table_core.specs.Views.{saw}
use Rattle.table_core.specs.Own.{known_in}
use Rattle.table_core.specs.RecordViews.{learnt}
use Rattle.step_table.specs.RecordHands.{word_of_record}
use Rattle.step_table.proofs.shared.Shared.read_own.Given as goal

abbrev pub ghosts-load_as : goal.ghosts-load_as
ghosts-load_as a =
    let at = word_of_record a._about.now.1 a._about.now.0 in let v = a.seat.now.me.0 in
    record { at = at; told = λ r w. (w ≡ saw at r (learnt at r v)) × ((n : ℕ) → known_in at v.known ≡ Some n → r ≡ n) }
