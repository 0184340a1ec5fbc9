use Rattle.worker_loop.specs.Working.{IsFree, GoesOn}
use Rattle.worker_loop.proofs.worker.work.Given as goal

abbrev pub invariant-loop : goal.invariant-loop
invariant-loop g l =
    (goal.iterator-loop g).can_next l.iterator' × (goal.iterator-loop g).is_finite l.iterator' × IsFree l.worker.pass × GoesOn l.fn.worker.pass l.worker.pass × g.Q.ReadyStore.is_pass l.scheduler.ready l.worker.qpass
