use Rattle.std.proofs.Common.{◌≡◌, ℕ}
use Rattle.table_core.specs.Addresses.{root}
use Rattle.table_core.specs.Views.{saw}
use Rattle.table_core.specs.RecordViews.{put_root}
use Rattle.step_table.specs.Turns.{says_of}
use Rattle.step_table.proofs.shared.Shared.name.Given as goal

abbrev pub ghosts-store_as : goal.ghosts-store_as
ghosts-store_as a =
    let at = root a._about.now.0 in
    record { at = at; told = λ r w. (n : ℕ) × (w ≡ saw at n (put_root (says_of a._about.now.1) a.seat.now.me.0)) }
