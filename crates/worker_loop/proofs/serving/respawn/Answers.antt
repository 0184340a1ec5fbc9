use Rattle.frame_code.specs.Words.{body_of}
use Rattle.worker_loop.proofs.CallFacts.{none-made}
use Rattle.worker_loop.proofs.CountFacts.{asks-again, few-room}
use Rattle.worker_loop.proofs.HandFacts.{goes-then, same-goes}
use Rattle.worker_loop.proofs.PlacedFacts.{places}
use Rattle.worker_loop.proofs.serving.respawn.Goals as goal

pub respawn-respawned-requires-clause-may : goal.respawn-respawned-requires-clause-may
respawn-respawned-requires-clause-may g c κs within = record {
  in_step = c.requires.runs.alone.in_step;
  asks = asks-again c.args.scheduler.now.shared.setup.checked c.args.scheduler.now.shared.setup.columns c.args.request (body_of c.args.scheduler.now.shared.setup.checked c.args.running.frame.items) c.requires.asks;
  unrefused = c.requires.unrefused;
  unmade = none-made c.args.running.made c.requires.runs.made_is;
}

pub respawn-respawned-requires-clause-room : goal.respawn-respawned-requires-clause-room
respawn-respawned-requires-clause-room g c κs within = few-room c.args.scheduler.now.shared.setup c.args.running c.args.worker.now.pass c.requires.runs

pub follow-requires-clause-placed : goal.follow-requires-clause-placed
follow-requires-clause-placed g c κs within =
    places c.args.scheduler.now.shared.setup c.args.running _ _ _ c.respawn-respawned.result c.args.worker.now.pass c.respawn-respawned.new.pass c.requires.runs c.respawn-respawned.ensures.respawned c.respawn-respawned.ensures.pass.held_is

pub returns-clause-goes : goal.returns-clause-goes
returns-clause-goes g c = goes-then c.args.worker.now.pass c.respawn-respawned.new.pass c.follow.new.worker.pass (same-goes _ c.args.worker.now.pass c.respawn-respawned.new.pass c.respawn-respawned.ensures.pass) c.follow.ensures.goes
