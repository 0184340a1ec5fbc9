use Rattle.std.proofs.Common.{subst}
use Rattle.step_table.specs.Passes.{view}
use Rattle.schedule_core.specs.declared.answers.Respawned.{Respawned}
use Rattle.worker_loop.specs.Serving.{Places}
use Rattle.worker_loop.proofs.CallFacts.{publishes-sees}
use Rattle.worker_loop.proofs.CountFacts.{free-sees}
use Rattle.worker_loop.proofs.HandFacts.{same-goes, goes-self}
use Rattle.worker_loop.proofs.serving.follow.Goals as goal

pub returns-in-Waits-clause-goes : goal.returns-in-Waits-clause-goes
returns-in-Waits-clause-goes g c = goes-self c.args.worker.now.pass

pub returns-in-Waits-clause-free : goal.returns-in-Waits-clause-free
returns-in-Waits-clause-free g c = subst (λ (r : Respawned). Places c.args.scheduler.now.shared.setup r c.args.worker.now.pass) c.in-Waits.is c.requires.placed

pub returns-in-Ready-clause-goes : goal.returns-in-Ready-clause-goes
returns-in-Ready-clause-goes g c =
    same-goes c.args.worker.now.pass.held c.args.worker.now.pass c.publish.new.pass c.publish.ensures.pass

pub returns-in-Ready-clause-free : goal.returns-in-Ready-clause-free
returns-in-Ready-clause-free g c =
    free-sees c.args.worker.now.pass c.publish.new.pass (subst (λ (r : Respawned). Places c.args.scheduler.now.shared.setup r c.args.worker.now.pass) c.in-Ready.is c.requires.placed)
    (publishes-sees (view c.args.worker.now.pass) (view c.publish.new.pass) c.publish.ensures.published) c.publish.ensures.pass.held_is

pub finish-requires-clause-runs : goal.finish-requires-clause-runs
finish-requires-clause-runs g c κs within = (subst (λ (r : Respawned). Places c.args.scheduler.now.shared.setup r c.args.worker.now.pass) c.in-Over.is c.requires.placed).0

pub finish-requires-clause-refused : goal.finish-requires-clause-refused
finish-requires-clause-refused g c κs within = (subst (λ (r : Respawned). Places c.args.scheduler.now.shared.setup r c.args.worker.now.pass) c.in-Over.is c.requires.placed).1
