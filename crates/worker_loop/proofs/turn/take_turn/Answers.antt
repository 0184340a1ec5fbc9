use Rattle.std.proofs.Common.{arith}
use Rattle.worker_loop.proofs.HandFacts.{goes-then, same-goes}
use Rattle.worker_loop.proofs.TurnFacts.{taken-runs, taken-unrefused, passed-free, empty-free}
use Rattle.worker_loop.proofs.turn.take_turn.Goals as goal

pub take-requires-clause-room : goal.take-requires-clause-room
take-requires-clause-room g c κs within = omega (arith, c.requires.free.count)

pub run_taken-requires-clause-runs : goal.run_taken-requires-clause-runs
run_taken-requires-clause-runs g c κs within =
    taken-runs c.args.scheduler.now.shared.setup (g.Q.ReadyStore.lanes c.args.scheduler.now.ready) (g.Q.ReadyStore.number c.args.worker.now.qpass) (g.Q.ReadyStore.saw c.args.scheduler.now.ready c.take.new.qpass) c.args.worker.now.pass c.take.new.pass c.requires.free c.in-Task.running c.in-Task.ensures.taken c.in-Task.ensures.pass.held_is

pub run_taken-requires-clause-unrefused : goal.run_taken-requires-clause-unrefused
run_taken-requires-clause-unrefused g c κs within =
    taken-unrefused c.args.scheduler.now.shared.setup (g.Q.ReadyStore.lanes c.args.scheduler.now.ready) (g.Q.ReadyStore.number c.args.worker.now.qpass) (g.Q.ReadyStore.saw c.args.scheduler.now.ready c.take.new.qpass) c.args.worker.now.pass c.take.new.pass c.requires.free c.in-Task.running c.in-Task.ensures.taken

pub returns-in-Task-clause-goes : goal.returns-in-Task-clause-goes
returns-in-Task-clause-goes g c = goes-then c.args.worker.now.pass c.take.new.pass c.run_taken.new.worker.pass (same-goes _ c.args.worker.now.pass c.take.new.pass c.take.ensures.pass) c.run_taken.ensures.goes

pub returns-in-Passed-clause-goes : goal.returns-in-Passed-clause-goes
returns-in-Passed-clause-goes g c = same-goes _ c.args.worker.now.pass c.take.new.pass c.take.ensures.pass

pub returns-in-Passed-clause-turns : goal.returns-in-Passed-clause-turns
returns-in-Passed-clause-turns g c =
    passed-free c.args.scheduler.now.shared.setup (g.Q.ReadyStore.lanes c.args.scheduler.now.ready) (g.Q.ReadyStore.number c.args.worker.now.qpass) (g.Q.ReadyStore.saw c.args.scheduler.now.ready c.take.new.qpass) c.args.worker.now.pass c.take.new.pass c.requires.free c.in-Passed.entry c.in-Passed.seen c.in-Passed.ensures.taken c.in-Passed.ensures.pass.held_is

pub look-requires-clause-free : goal.look-requires-clause-free
look-requires-clause-free g c κs within = empty-free c.args.scheduler.now.shared.setup (g.Q.ReadyStore.lanes c.args.scheduler.now.ready) (g.Q.ReadyStore.number c.args.worker.now.qpass) (g.Q.ReadyStore.saw c.args.scheduler.now.ready c.take.new.qpass) c.args.worker.now.pass c.take.new.pass c.requires.free c.in-Empty.ensures.taken c.in-Empty.ensures.pass.held_is

pub returns-in-Empty-clause-goes : goal.returns-in-Empty-clause-goes
returns-in-Empty-clause-goes g c = goes-then c.args.worker.now.pass c.take.new.pass c.look.new.worker.pass (same-goes _ c.args.worker.now.pass c.take.new.pass c.take.ensures.pass) c.look.ensures.goes
