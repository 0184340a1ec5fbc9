use Rattle.std.proofs.Common.{◌∙◌, ap, arith}
use Rattle.table_core.specs.declared.view.View.{View}
use Rattle.step_table.specs.Passes.{view}
use Rattle.schedule_core.specs.NewTasks.{class_given, units_given}
use Rattle.schedule_core.proofs.SeeingTasks.{seen-behind}
use Rattle.schedule_core.proofs.SpawnSights.{given-has, behind-has, may-place_task, making-each, making-behind}
use Rattle.schedule_core.proofs.new_tasks.make_task.Goals as goal

pub see_given-requires-clause-has : goal.see_given-requires-clause-has
see_given-requires-clause-has c = given-has c.args.shared.now.setup c.args.running.now c.args.made c.args.new.now (view c.args.pass.now) c.requires.may

pub see_behind-behind-requires-clause-has : goal.see_behind-behind-requires-clause-has
see_behind-behind-requires-clause-has c =
    behind-has c.args.shared.now.setup c.args.running.now c.args.made c.args.new.now (view c.args.pass.now) c.requires.may (view c.see_given.new.pass) (ap (λ (v : View). v.futures) c.see_given.ensures.seen.view_is)

pub place_new-requires : goal.place_new-requires
place_new-requires c = (
  c.see_behind-behind.ensures.pass.table ∙ c.see_given.ensures.pass.table ∙ c.requires.table,
  (
    c.requires.code,
    (
      may-place_task c.args.shared.now.setup c.args.running.now c.args.made c.args.new.now c.see_behind-behind.result (view c.args.pass.now) (view c.see_given.new.pass) (view c.see_behind-behind.new.pass)
          c.requires.may c.see_given.ensures.seen (seen-behind c.see_behind-behind.result (view c.see_given.new.pass) (view c.see_behind-behind.new.pass) c.see_behind-behind.ensures.seen) c.see_behind-behind.ensures.behind,
      omega (arith, c.see_behind-behind.ensures.pass.held_is, c.see_given.ensures.pass.held_is, c.requires.room),
    ),
  ),
)

pub returns-clause-made : goal.returns-clause-made
returns-clause-made c base wants making =
    let g = c.args.shared.now.setup in let x = c.args.running.now in let class = class_given g.checked c.args.new.now.given in
    c.place_new.ensures.made base wants
    (making-behind g x class base c.args.made c.see_behind-behind.result (view c.see_given.new.pass) (view c.see_behind-behind.new.pass)
    (making-each g x class base c.args.made (units_given c.args.new.now.given) (view c.args.pass.now) (view c.see_given.new.pass) making c.see_given.ensures.seen) (seen-behind c.see_behind-behind.result (view c.see_given.new.pass) (view c.see_behind-behind.new.pass) c.see_behind-behind.ensures.seen))
