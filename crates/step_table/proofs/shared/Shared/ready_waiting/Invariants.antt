use Rattle.std.proofs.Common.{◌≡◌, ℕ}
use Rattle.table_core.specs.Addresses.{state}
use Rattle.table_core.specs.Views.{saw}
use Rattle.table_core.specs.WaitViews.{readied}
use Rattle.step_table.proofs.SeeingStepping.{TellsWaiting}
use Rattle.step_table.proofs.shared.Shared.ready_waiting.Given as goal

abbrev pub ghosts-load_as : goal.ghosts-load_as
ghosts-load_as a = record { at = state a._about.now; told = TellsWaiting a._about.now a.seat.now.me.0 }

abbrev pub ghosts-store_as : goal.ghosts-store_as
ghosts-store_as a = let u = a._about.now.0 in record { at = state u; told = λ r w. (n : ℕ) × (w ≡ saw (state u) n (readied u a.seat.now.me.0)) }
