use Rattle.std.proofs.Common.{◌≡◌, ℕ}
use Rattle.table_core.specs.Addresses.{next}
use Rattle.table_core.specs.Views.{saw}
use Rattle.table_core.specs.WaitViews.{linked}
use Rattle.step_table.proofs.shared.Shared.link.Given as goal

abbrev pub ghosts-store_as : goal.ghosts-store_as
ghosts-store_as a =
    let u = a._about.now.0 in let head = a._about.now.1 in
    record { at = next u; told = λ r w. (n : ℕ) × (w ≡ saw (next u) n (linked u head a.seat.now.me.0)) }
