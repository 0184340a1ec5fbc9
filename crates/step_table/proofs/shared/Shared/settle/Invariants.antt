use Rattle.std.proofs.Common.{◌≡◌}
use Rattle.table_core.specs.Addresses.{super}
use Rattle.table_core.specs.Views.{saw, settled}
use Rattle.step_table.specs.Passes.{owed_by}
use Rattle.step_table.proofs.shared.Shared.settle.Given as goal

abbrev pub ghosts-fetch_sub_as : goal.ghosts-fetch_sub_as
ghosts-fetch_sub_as a = record {
  at = super a._about.now.superblock;
  told = λ r w. w ≡ saw (super a._about.now.superblock) r (settled (owed_by a._about.now) a.seat.now.me.0);
}
