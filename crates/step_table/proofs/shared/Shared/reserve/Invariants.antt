use Rattle.std.proofs.Common.{◌≤◌}
use Rattle.kt_words.specs.SuperWords.{class_of}
use Rattle.table_core.specs.Addresses.{super}
use Rattle.table_core.specs.Views.{place, saw, reserved}
use Rattle.table_core.specs.Steps.{Tried}
use Rattle.step_table.proofs.shared.Shared.reserve.Given as goal

abbrev pub ghosts-compare_exchange_as : goal.ghosts-compare_exchange_as
ghosts-compare_exchange_as a =
    let i = a._about.now.0 in let c = a._about.now.1 in let v = a.seat.now.me.0 in
    record {
      at = super i;
      told = λ r w. Tried a.old (saw (super i) r v) (saw (super i) r (reserved (place i c) v)) r w × (class_of r ≤ 3);
    }
