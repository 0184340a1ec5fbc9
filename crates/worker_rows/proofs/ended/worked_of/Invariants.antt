use Rattle.std.specs.Prelude.{◌≡◌, map, take}
use Rattle.worker_rows.proofs.ended.worked_of.Given as goal

abbrev pub invariant-workers : goal.invariant-workers
invariant-workers g l = l.worked.items ≡ map (λ w. w.worked) (take l.worker-index l.workers)
