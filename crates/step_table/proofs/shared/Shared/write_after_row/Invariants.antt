use Rattle.std.proofs.Common.{◌≡◌, ℕ}
use Rattle.table_core.specs.Addresses.{journal}
use Rattle.table_core.specs.Views.{saw}
use Rattle.schedule_rule.specs.DrawViews.{wrote_after}
use Rattle.step_table.proofs.shared.Shared.write_after_row.Given as goal

abbrev pub ghosts-store_as : goal.ghosts-store_as
ghosts-store_as a =
    let at = journal a._about.now 1 in
    record { at = at; told = λ r w. (n : ℕ) × (w ≡ saw at n (wrote_after a._about.now a.seat.now.me.0)) }
