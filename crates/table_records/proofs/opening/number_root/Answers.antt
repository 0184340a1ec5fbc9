use Rattle.table_records.proofs.opening.number_root.Goals as goal
use Rattle.std.proofs.Common.{◌∙◌, sym, subst}
use Rattle.task_meaning.specs.Worths.{Accepted}
use Rattle.step_table.specs.DrawSteps.{MayDrawForRoot}
use Rattle.table_records.proofs.OpeningFacts.{may-draw-root}

pub draw_for_root-requires : goal.draw_for_root-requires
draw_for_root-requires g c =
    let told = c.if-permitted.ensures.drawn in let may = c.requires.1 in (
      c.see_drawn-permitted.ensures.pass.table ∙ c.requires.0,
      subst (λ (call : Accepted). MayDrawForRoot c.args.shared.now.setup c.args.made.now.unit 0 call c.see_drawn-permitted.new.pass.seat.me.0) (sym may.2)
          (may-draw-root c.args.shared.now.setup c.args.made.now.unit c.args.pass.now.seat.me.0 may.0 may.1 told.0 c.see_drawn-permitted.new.pass.seat.me.0 told.2),
    )
