use Rattle.table_records.proofs.stages.number.Goals as goal
use Rattle.std.proofs.Common.{◌∙◌, sym, subst}
use Rattle.task_meaning.specs.Worths.{Accepted}
use Rattle.step_table.specs.DrawSteps.{MayDrawForRun}
use Rattle.table_records.proofs.StageFacts.{may-draw-of}

pub draw_for_run-requires : goal.draw_for_run-requires
draw_for_run-requires g c =
    let told = c.if-permitted.ensures.drawn in let may = c.requires.1 in (
      c.see_drawn-permitted.ensures.pass.table ∙ c.requires.0,
      subst (λ (call : Accepted). MayDrawForRun c.args.shared.now.setup c.args.made.now.unit c.args.maker.now.unit c.number-task.result call c.see_drawn-permitted.new.pass.seat.me.0) (sym may.2)
          (may-draw-of c.args.shared.now.setup c.args.maker.now c.args.made.now.unit c.args._behind c.args.pass.now.seat.me.0 may.0 may.1 c.number-task.result told.0
          c.see_drawn-permitted.new.pass.seat.me.0 c.number-task.ensures told.2),
    )
