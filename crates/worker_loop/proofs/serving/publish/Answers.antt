use Rattle.step_table.specs.Passes.{view}
use Rattle.schedule_core.proofs.EachFacts.{grows-self}
use Rattle.std.proofs.Common.{refl}
use Rattle.worker_loop.proofs.CallFacts.{publishes-sees}
use Rattle.worker_loop.proofs.HandFacts.{same-goes, goes-self}
use Rattle.worker_loop.proofs.serving.publish.Goals as goal

pub returns-in-Some-clause-goes : goal.returns-in-Some-clause-goes
returns-in-Some-clause-goes g c =
    same-goes c.args.worker.now.pass.held c.args.worker.now.pass c.publish.new.pass c.publish.ensures.pass

pub returns-in-Some-clause-seen : goal.returns-in-Some-clause-seen
returns-in-Some-clause-seen g c = publishes-sees (view c.args.worker.now.pass) (view c.publish.new.pass) c.publish.ensures.published

pub returns-in-None-clause-goes : goal.returns-in-None-clause-goes
returns-in-None-clause-goes g c = goes-self c.args.worker.now.pass

pub returns-in-None-clause-seen : goal.returns-in-None-clause-seen
returns-in-None-clause-seen g c = record { seen = grows-self (view c.args.worker.now.pass).seen; view_is = refl }
