use Rattle.step_table.specs.Passes.{view, plan}
use Rattle.schedule_core.proofs.Filling.{may-write_task, may-write_after, may-count_in, rows-written}
use Rattle.schedule_core.proofs.making.write_rows.Goals as goal

pub write_task_row-requires-clause-may : goal.write_task_row-requires-clause-may
write_task_row-requires-clause-may c = may-write_task (plan c.args.shared.now) c.args.made.now.unit c.args.number c.args.behind (view c.args.pass.now) c.requires.may

pub write_after_row-requires-clause-may : goal.write_after_row-requires-clause-may
write_after_row-requires-clause-may c =
    may-write_after (plan c.args.shared.now) c.args.made.now.unit c.args.number c.args.behind c.args.pass.now c.write_task_row.new.pass c.requires.may c.write_task_row.ensures.row

pub live_up-requires-clause-may : goal.live_up-requires-clause-may
live_up-requires-clause-may c =
    may-count_in (plan c.args.shared.now) c.args.made.now.unit c.args.number c.args.behind c.args.pass.now c.write_task_row.new.pass c.write_after_row.new.pass c.requires.may c.write_task_row.ensures.row
    c.write_after_row.ensures.row

pub returns-clause-written : goal.returns-clause-written
returns-clause-written c =
    rows-written c.args.made.now.unit c.args.number c.args.pass.now c.write_task_row.new.pass c.write_after_row.new.pass c.live_up.new.pass c.write_task_row.ensures.row c.write_after_row.ensures.row
    c.live_up.ensures.count
