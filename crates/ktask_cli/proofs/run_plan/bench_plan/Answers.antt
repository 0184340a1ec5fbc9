use Rattle.std.proofs.Common.{arith, refl}
use Rattle.ktask_cli.proofs.run_plan.bench_plan.Goals as goal

pub unwrap-geometry-requires : goal.unwrap-geometry-requires
unwrap-geometry-requires c = c.new.ensures.exactly.1 (record {
  superblocks_fit = (omega arith, omega arith);
  units_fit = (omega arith, omega arith, (9, refl));
})
