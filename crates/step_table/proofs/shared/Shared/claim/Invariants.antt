use Rattle.std.proofs.Common.{◌/◌}
use Rattle.table_core.specs.Addresses.{bits}
use Rattle.table_core.specs.Views.{place, saw, claimed}
use Rattle.table_core.specs.Steps.{WonBit}
use Rattle.step_table.proofs.shared.Shared.claim.Given as goal

abbrev pub ghosts-fetch_or_as : goal.ghosts-fetch_or_as
ghosts-fetch_or_as a =
    let i = a._about.now.0 in let c = a._about.now.1 in let b = a._about.now.2 in let v = a.seat.now.me.0 in
    record {
      at = bits i (b / 64);
      told = λ r w. WonBit b (saw (bits i (b / 64)) r v) (saw (bits i (b / 64)) r (claimed a.self.now.setup.plan (place i c) b v)) r w;
    }
