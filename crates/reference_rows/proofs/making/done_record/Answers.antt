use Rattle.step_table.specs.Passes.{view, plan}
use Rattle.reference_rows.proofs.MakingFacts.{dones}
use Rattle.reference_rows.proofs.making.done_record.Goals as goal

pub returns-clause-done : goal.returns-clause-done
returns-clause-done g c =
    dones (plan c.args.shared.now) c.in_ok-started.started c.settle-finishing.result c.in_ok-started.future.unit (view c.args.pass.now) (view c.running_record.new.pass) (view c.settle-finishing.new.pass)
    c.in_ok-started.ensures.run c.settle-finishing.ensures.unit c.settle-finishing.ensures.settled
