use Rattle.std.proofs.Common.{◌∙◌}
use Rattle.step_table.specs.Passes.{view}
use Rattle.schedule_core.proofs.RootPlaces.{may-draw_root, may-unmake_root, may-offer_root, may-say_back, names-limit, may-say_drawn, names-drawn}
use Rattle.schedule_core.proofs.SpawnSights.{names-fit}
use Rattle.schedule_core.proofs.hosting.place_root.Goals as goal

pub number_for_root-requires : goal.number_for_root-requires
number_for_root-requires g c = (
  c.requires.0,
  (
    may-draw_root c.args.shared.now.setup c.args.root c.args.line.now c.args.made c.args.task.now g.placement (view c.args.pass.now) c.requires.1.1.0,
    may-unmake_root c.args.shared.now.setup c.args.root c.args.line.now c.args.made c.args.task.now g.placement (view c.args.pass.now) c.requires.1.1.0,
  ),
)

pub name-requires-clause-may : goal.name-requires-clause-may
name-requires-clause-may g c =
    may-say_back c.args.shared.now.setup c.args.root c.args.line.now c.args.made c.args.task.now g.placement (view c.args.pass.now) c.requires.1.1.0 c.number_for_root.new.pass c.number_for_root.new.pass c.in-None.ensures.number

pub offer-entry-requires : goal.offer-entry-requires
offer-entry-requires g c =
    let told = c.in-Some.ensures.number in (
      c.number_for_root.ensures.pass.table ∙ c.requires.0,
      (
        c.requires.1.0,
        (
          may-offer_root c.args.shared.now.setup c.args.root c.args.line.now c.args.made c.in-Some.made c.args.task.now g.placement c.in-Some.number (view c.args.pass.now) (view c.number_for_root.new.pass) c.requires.1.1.0 told.0
              told.1 told.2,
          names-fit c.args.shared.now.setup.checked c.args.code.now c.args.task.now.first.items c.args.pass.now.held c.number_for_root.new.pass.held c.requires.1.0 c.requires.1.1.0.task.frame c.number_for_root.ensures.pass.held_is
              c.requires.1.1.1,
        ),
      ),
    )

pub name-requires-in-Some-clause-may : goal.name-requires-in-Some-clause-may
name-requires-in-Some-clause-may g c =
    let told = c.in-Some.ensures.number in
    may-say_drawn c.args.shared.now.setup c.args.root c.args.line.now c.args.made c.in-Some.made c.args.task.now g.placement c.in-Some.number (view c.args.pass.now) (view c.number_for_root.new.pass) c.requires.1.1.0 told.0
    told.1 told.2 c.offer-entry.result c.offer-entry.new.pass c.offer-entry.ensures.offered

pub returns-in-None-clause-placed : goal.returns-in-None-clause-placed
returns-in-None-clause-placed g c =
    names-limit c.args.shared.now.setup c.args.root c.args.line.now c.args.made c.args.task.now g.placement (view c.args.pass.now) c.requires.1.1.0 c.number_for_root.new.pass c.name.new.pass c.in-None.ensures.number
    c.name.ensures.view

pub returns-in-Some-clause-placed : goal.returns-in-Some-clause-placed
returns-in-Some-clause-placed g c =
    let told = c.in-Some.ensures.number in
    names-drawn c.args.shared.now.setup c.args.root c.args.line.now c.args.made c.in-Some.made c.args.task.now g.placement c.in-Some.number (view c.args.pass.now) (view c.number_for_root.new.pass) c.requires.1.1.0 told.0
    told.1 told.2 c.offer-entry.result c.offer-entry.new.pass c.offer-entry.ensures.offered c.name-in-Some.new.pass c.name-in-Some.ensures.view
