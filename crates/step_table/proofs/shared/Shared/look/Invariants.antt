use Rattle.std.proofs.Common.{◌≡◌, ◌≤◌}
use Rattle.kt_words.specs.SuperWords.{class_of}
use Rattle.table_core.specs.Addresses.{super}
use Rattle.table_core.specs.Views.{saw, looked}
use Rattle.step_table.proofs.shared.Shared.look.Given as goal

abbrev pub ghosts-load_as : goal.ghosts-load_as
ghosts-load_as a = record {
  at = super a._about.now.0;
  told = λ r w. (w ≡ saw (super a._about.now.0) r (looked a._about.now.0 a._about.now.1 r a.seat.now.me.0)) × (class_of r ≤ 3);
}
