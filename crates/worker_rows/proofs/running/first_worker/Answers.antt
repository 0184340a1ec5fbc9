use Rattle.std.proofs.Common.{length, ap, arith}
use Rattle.worker_rows.proofs.running.first_worker.Goals as goal

pub keep_count-requires : goal.keep_count-requires
keep_count-requires g c = omega (arith, ap length c.requires.none)
