use Rattle.worker_loop.proofs.PlacedFacts.{places}
use Rattle.worker_loop.proofs.serving.refuse.Goals as goal

pub retry-respawned-requires-clause-may : goal.retry-respawned-requires-clause-may
retry-respawned-requires-clause-may g c κs within = record { in_step = c.requires.runs.alone.in_step; asks = c.requires.asks c.if-retry.true; refused = c.requires.refused }

pub follow-requires-clause-placed : goal.follow-requires-clause-placed
follow-requires-clause-placed g c κs within =
    places c.args.scheduler.now.shared.setup c.args.running _ _ _ c.retry-respawned.result c.args.worker.now.pass c.retry-respawned.new.pass c.requires.runs c.retry-respawned.ensures.retried c.retry-respawned.ensures.pass.held_is

pub finish-requires-clause-refused : goal.finish-requires-clause-refused
finish-requires-clause-refused g c κs within = c.requires.refused
