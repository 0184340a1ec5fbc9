use Rattle.std.specs.Prelude.{◌≡◌, vec_len}
use Rattle.schedule_rows.proofs.AskedRoots.{IsAsking}
use Rattle.schedule_rows.proofs.hosting.host_roots.Given as goal

abbrev pub invariant-roots : goal.invariant-roots
invariant-roots g l = IsAsking l.scheduler.shared.setup l.root l.fn.pass l.pass × (vec_len l.told ≡ l.root)
