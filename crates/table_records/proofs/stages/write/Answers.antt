use Rattle.table_records.proofs.stages.write.Goals as goal
use Rattle.std.proofs.Common.{◌∙◌, List, ap, arith}
use Rattle.table_core.specs.Holdings.{Made}
use Rattle.table_core.specs.declared.view.View.{View}
use Rattle.step_table.specs.declared.record_tokens.OwnWord.TheVariants.{Frame, Task, References, Head}
use Rattle.table_records.proofs.StageFacts.{may-write-after, may-fill, may-count, writes-at}

-- the made records of a view
abbrev made : View → List Made
made v = v.made

pub write_after_row-requires-clause-may : goal.write_after_row-requires-clause-may
write_after_row-requires-clause-may c =
    let row = c.write_task_row.ensures.row in
    may-write-after c.args.shared.now.setup.plan c.args.made.now.unit c.args.number row.found c.args.behind c.args.pass.now.seat.me.0 c.write_task_row.new.pass.seat.me.0 c.requires.may row.view_is

pub fill-requires-clause-may : goal.fill-requires-clause-may
fill-requires-clause-may c =
    may-fill c.args.shared.now.setup.plan c.args.made.now.unit c.unit-unit.result c.args.number Task c.args.pass.now.seat.me.0 c.write_after_row.new.pass.seat.me.0 c.unit-unit.ensures c.requires.may.at
    (ap made c.write_after_row.ensures.row.view_is ∙ ap made c.write_task_row.ensures.row.view_is) tt

pub fill-requires-2-clause-may : goal.fill-requires-2-clause-may
fill-requires-2-clause-may c =
    may-fill c.args.shared.now.setup.plan c.args.made.now.unit c.unit-unit.result c.args.number References c.args.pass.now.seat.me.0 c.fill.new.pass.seat.me.0 c.unit-unit.ensures c.requires.may.at
    (ap made c.fill.ensures.view.view_is ∙ (ap made c.write_after_row.ensures.row.view_is ∙ ap made c.write_task_row.ensures.row.view_is)) tt

pub fill-requires-3-clause-may : goal.fill-requires-3-clause-may
fill-requires-3-clause-may c =
    may-fill c.args.shared.now.setup.plan c.args.made.now.unit c.unit-unit.result c.args.number Head c.args.pass.now.seat.me.0 c.fill-2.new.pass.seat.me.0 c.unit-unit.ensures c.requires.may.at
    (ap made c.fill-2.ensures.view.view_is ∙ (ap made c.fill.ensures.view.view_is ∙ (ap made c.write_after_row.ensures.row.view_is ∙ ap made c.write_task_row.ensures.row.view_is))) tt

pub fill-requires-4-clause-may : goal.fill-requires-4-clause-may
fill-requires-4-clause-may c =
    may-fill c.args.shared.now.setup.plan c.args.made.now.unit c.unit-unit.result c.args.number (Frame 0) c.args.pass.now.seat.me.0 c.fill-3.new.pass.seat.me.0 c.unit-unit.ensures c.requires.may.at
    (ap made c.fill-3.ensures.view.view_is ∙ (ap made c.fill-2.ensures.view.view_is ∙ (ap made c.fill.ensures.view.view_is ∙ (ap made c.write_after_row.ensures.row.view_is ∙ ap made c.write_task_row.ensures.row.view_is)))) (omega arith)

pub live_up-requires-clause-may : goal.live_up-requires-clause-may
live_up-requires-clause-may c =
    may-count c.args.shared.now.setup.plan c.args.made.now.unit c.args.number c.args.behind c.args.pass.now.seat.me.0 c.fill-4.new.pass.seat.me.0 c.requires.may (ap made c.fill-4.ensures.view.view_is ∙ (ap made c.fill-3.ensures.view.view_is ∙ (ap made c.fill-2.ensures.view.view_is ∙ (ap made c.fill.ensures.view.view_is ∙ (ap made c.write_after_row.ensures.row.view_is ∙ ap made c.write_task_row.ensures.row.view_is)))))

pub returns-clause-written : goal.returns-clause-written
returns-clause-written c =
    let v = c.args.pass.now.seat.me.0 in
    writes-at c.args.made.now.unit c.unit-unit.result c.args.number c.from.result c.write_task_row.ensures.row.found c.write_after_row.ensures.row.found c.fill.ensures.view.found c.fill-2.ensures.view.found
    c.fill-3.ensures.view.found c.fill-4.ensures.view.found c.live_up.ensures.count.found v c.write_task_row.new.pass.seat.me.0 c.write_after_row.new.pass.seat.me.0 c.fill.new.pass.seat.me.0
    c.fill-2.new.pass.seat.me.0 c.fill-3.new.pass.seat.me.0 c.fill-4.new.pass.seat.me.0 _ c.unit-unit.ensures c.from.ensures c.write_task_row.ensures.row.view_is c.write_after_row.ensures.row.view_is
    c.fill.ensures.view.view_is c.fill-2.ensures.view.view_is c.fill-3.ensures.view.view_is c.fill-4.ensures.view.view_is c.live_up.ensures.count.view_is
