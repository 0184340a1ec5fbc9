use Rattle.std.proofs.Common.{◌≡◌, None, []}
use Rattle.worker_loop.specs.Working.{Runs, GoesOn}
use Rattle.worker_loop.proofs.serving.serve.Given as goal

abbrev pub invariant-loop : goal.invariant-loop
invariant-loop g l =
    (goal.iterator-loop g).can_next l.iterator' × (goal.iterator-loop g).is_finite l.iterator' × Runs l.scheduler.shared.setup l.running [] l.worker.pass × (l.running.refused ≡ None)
    × (l.running.started ≡ l.fn.running.started) × GoesOn l.fn.worker.pass l.worker.pass × g.Q.ReadyStore.is_pass l.scheduler.ready l.worker.qpass
