use Rattle.std.proofs.Common.{ℕ, Option, refl, sym, subst}
use Rattle.task_meaning.specs.Worths.{Respawn}
use Rattle.schedule_rule.specs.DrawViews.{drew_again}
use Rattle.step_table.specs.DrawSteps.{MayDrawAgain, DrewNumber}
use Rattle.step_table.specs.Passes.{view}
use Rattle.step_table.specs.RowSteps.{MayWriteAfter}
use Rattle.schedule_core.specs.NextNumbers.{Numbers}
use Rattle.schedule_core.proofs.NextNumberFacts.{may-draw, draw-met, may-row_task, may-row_after, draw-won, may-of}
use Rattle.schedule_core.proofs.respawning.number_next.Goals as goal

pub draw_again-requires-clause-may : goal.draw_again-requires-clause-may
draw_again-requires-clause-may c =
    subst (λ (o : Option ℕ). MayDrawAgain c.args.shared.now.setup c.args.running.now.started.unit c.args.running.now.task o (view c.see_behind-behind.new.pass)) (sym c.task_of-waits.ensures)
    (may-draw c.args.shared.now.setup c.args.running.now c.args.unit (view c.args.pass.now) (view c.see_behind-behind.new.pass) c.see_behind-behind.result c.requires.may c.see_behind-behind.ensures.seen
    c.see_behind-behind.ensures.behind)

pub returns-in_err-number-clause-number : goal.returns-in_err-number-clause-number
returns-in_err-number-clause-number c = λ base in_step opened.
    let g = c.args.shared.now.setup in let x = c.args.running.now in let v = view c.args.pass.now in
    subst (λ o. Numbers g x c.args.unit base o (view c.draw_again.new.pass)) (sym c.from_residual.ensures)
    (draw-met g x c.args.unit v (view c.see_behind-behind.new.pass) c.see_behind-behind.result (may-of g x c.args.unit v base c.requires.may in_step opened) c.see_behind-behind.ensures.seen (view c.draw_again.new.pass) c.in_err-number.ensures.drawn)

pub write_task_row-requires-clause-may : goal.write_task_row-requires-clause-may
write_task_row-requires-clause-may c =
    let g = c.args.shared.now.setup in let x = c.args.running.now in let w = view c.see_behind-behind.new.pass in let drew = view c.draw_again.new.pass in let n = c.in_ok-number.number in
    may-row_task g x c.args.unit (view c.args.pass.now) w c.see_behind-behind.result c.requires.may c.see_behind-behind.ensures.seen n drew
    (subst (λ (o : Option ℕ). DrewNumber g.plan.limit n w drew (drew_again x.started.unit x.task (Respawn x.task o) n w)) c.task_of-waits.ensures c.in_ok-number.ensures.drawn)

pub write_after_row-requires-clause-may : goal.write_after_row-requires-clause-may
write_after_row-requires-clause-may c =
    let g = c.args.shared.now.setup in let x = c.args.running.now in let w = view c.see_behind-behind.new.pass in let drew = view c.draw_again.new.pass in let n = c.in_ok-number.number in
    subst (λ (o : Option ℕ). MayWriteAfter g.plan n o (view c.write_task_row.new.pass)) (sym c.task_of-waits.ensures)
    (may-row_after g x c.args.unit (view c.args.pass.now) w c.see_behind-behind.result c.requires.may c.see_behind-behind.ensures.seen n drew
    (subst (λ (o : Option ℕ). DrewNumber g.plan.limit n w drew (drew_again x.started.unit x.task (Respawn x.task o) n w)) c.task_of-waits.ensures c.in_ok-number.ensures.drawn)
    c.draw_again.new.pass c.write_task_row.new.pass refl c.write_task_row.ensures.row)

pub returns-clause-number : goal.returns-clause-number
returns-clause-number c = λ base in_step opened.
    let g = c.args.shared.now.setup in let x = c.args.running.now in let v = view c.args.pass.now in let w = view c.see_behind-behind.new.pass in let drew = view c.draw_again.new.pass in let n = c.in_ok-number.number in
    draw-won g x c.args.unit v w c.see_behind-behind.result (may-of g x c.args.unit v base c.requires.may in_step opened) c.see_behind-behind.ensures.seen n drew
    (subst (λ (o : Option ℕ). DrewNumber g.plan.limit n w drew (drew_again x.started.unit x.task (Respawn x.task o) n w)) c.task_of-waits.ensures c.in_ok-number.ensures.drawn)
    c.draw_again.new.pass c.write_task_row.new.pass c.write_after_row.new.pass refl c.write_task_row.ensures.row c.write_after_row.ensures.row c.see_behind-behind.ensures.behind c.write_after_row.ensures.sound.after
