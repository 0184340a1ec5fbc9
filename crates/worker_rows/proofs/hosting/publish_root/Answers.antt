use Rattle.step_table.specs.Passes.{view}
use Rattle.worker_rows.proofs.LeadFacts.{publishes-sees, sees-self}
use Rattle.worker_rows.proofs.hosting.publish_root.Goals as goal

pub returns-in-Some-clause-seen : goal.returns-in-Some-clause-seen
returns-in-Some-clause-seen g c = publishes-sees (view c.args.worker.now.pass) (view c.publish.new.pass) c.publish.ensures.published

pub returns-in-None-clause-seen : goal.returns-in-None-clause-seen
returns-in-None-clause-seen g c = sees-self (view c.args.worker.now.pass)
