use Rattle.std.proofs.Common.{◌≡◌}
use Rattle.step_table.specs.Passes.{view}
use Rattle.worker_loop.specs.Working.{HasOnlyChain, GoesOn}
use Rattle.worker_loop.proofs.serving.start_all.Given as goal

abbrev pub invariant-loop : goal.invariant-loop
invariant-loop g l =
    (goal.iterator-loop g).can_next l.iterator' × (goal.iterator-loop g).is_finite l.iterator' × HasOnlyChain l.scheduler.shared.setup l.chain (view l.worker.pass) × GoesOn l.fn.worker.pass l.worker.pass
    × (l.worker.pass.held ≡ l.fn.worker.pass.held) × g.Q.ReadyStore.is_pass l.scheduler.ready l.worker.qpass
