use Rattle.step_table.specs.Passes.{view, plan}
use Rattle.schedule_core.proofs.TakenUnits.{takes-root}
use Rattle.schedule_core.proofs.named_roots.take_root.Goals as goal

pub returns-clause-taken : goal.returns-clause-taken
returns-clause-taken c = takes-root (plan c.args.shared.now) (plan c.args.shared.now).limit c.args.root c.more_root-future.result (record { unit = c.unit.result; task = c.see_task-task.result }) c.args.pass.now c.more_root-future.new.pass (view c.see_task-task.new.pass)
    c.requires.named c.more_root-future.ensures.future c.unit.ensures c.see_task-task.ensures.task
