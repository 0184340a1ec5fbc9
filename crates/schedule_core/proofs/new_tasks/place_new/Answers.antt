use Rattle.std.proofs.Common.{◌∙◌}
use Rattle.step_table.specs.Passes.{view}
use Rattle.schedule_core.specs.NewTasks.{class_given}
use Rattle.schedule_core.proofs.SpawnEnds.{met-back, makes-new}
use Rattle.schedule_core.proofs.SpawnMoves.{met-in-step}
use Rattle.schedule_core.proofs.SpawnOffers.{may-offer}
use Rattle.schedule_core.proofs.SpawnSights.{names-fit}
use Rattle.schedule_core.proofs.SpawnStages.{may-draw, may-unmake}
use Rattle.schedule_core.proofs.new_tasks.place_new.Goals as goal

pub number_for_run-drawn-requires : goal.number_for_run-drawn-requires
number_for_run-drawn-requires g c = (
  c.requires.0,
  (
    may-draw c.args.shared.now.setup c.args.running.now c.args.made c.args.new.now c.args.behind g.placement (view c.args.pass.now) c.requires.1.1.0,
    may-unmake c.args.shared.now.setup c.args.running.now c.args.made c.args.new.now c.args.behind g.placement (view c.args.pass.now) c.requires.1.1.0,
  ),
)

pub offer-entry-requires : goal.offer-entry-requires
offer-entry-requires g c =
    let told = c.in-Some.ensures.number in (
      c.number_for_run-drawn.ensures.pass.table ∙ c.requires.0,
      (
        c.requires.1.0,
        (
          may-offer c.args.shared.now.setup c.args.running.now c.args.made c.in-Some.made c.args.new.now c.args.behind g.placement c.in-Some.number (view c.args.pass.now) (view c.number_for_run-drawn.new.pass) c.requires.1.1.0
              told.0 told.1 told.2,
          names-fit c.args.shared.now.setup.checked c.args.code.now c.args.new.now.first.items c.args.pass.now.held c.number_for_run-drawn.new.pass.held c.requires.1.0 c.requires.1.1.0.make.wants.frame
              c.number_for_run-drawn.ensures.pass.held_is c.requires.1.1.1,
        ),
      ),
    )

pub returns-in-None-clause-made : goal.returns-in-None-clause-made
returns-in-None-clause-made g c base wants making =
    let class = class_given c.args.shared.now.setup.checked c.args.new.now.given in
    let met = met-back c.args.shared.now.setup c.args.running.now class base c.args.made (view c.args.pass.now) (view c.number_for_run-drawn.new.pass) making c.in-None.ensures.number in
    (met, met-in-step c.args.shared.now.setup c.args.running.now class base (view c.number_for_run-drawn.new.pass) wants.in_step met)

pub returns-in-Some-clause-made : goal.returns-in-Some-clause-made
returns-in-Some-clause-made g c base wants making =
    let told = c.in-Some.ensures.number in
    makes-new c.args.shared.now.setup c.args.running.now c.args.made c.in-Some.made c.args.new.now c.args.behind g.placement c.in-Some.number (view c.args.pass.now) (view c.number_for_run-drawn.new.pass)
    (view c.offer-entry.new.pass) c.offer-entry.result c.requires.1.1.0 told.0 told.1 c.offer-entry.ensures.offered base wants making
