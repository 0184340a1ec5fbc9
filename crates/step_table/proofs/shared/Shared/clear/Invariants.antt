use Rattle.std.proofs.Common.{◌≡◌, ◌/◌}
use Rattle.table_core.specs.Addresses.{bits}
use Rattle.table_core.specs.Pool.{superblock_of, bit_of}
use Rattle.table_core.specs.Views.{saw, cleared}
use Rattle.step_table.specs.Passes.{block_of}
use Rattle.step_table.proofs.shared.Shared.clear.Given as goal

abbrev pub ghosts-fetch_and_as : goal.ghosts-fetch_and_as
ghosts-fetch_and_as a =
    let g = a.self.now.setup.plan in let x = a._about.now in
    record {
      at = bits (superblock_of g x.unit) (bit_of g x.unit x.class / 64);
      told = λ r w. w ≡ saw (bits (superblock_of g x.unit) (bit_of g x.unit x.class / 64)) r (cleared g (block_of x) a.seat.now.me.0);
    }
