use Rattle.step_table.specs.Passes.{view}
use Rattle.schedule_core.specs.RootStages.{root_placement}
use Rattle.schedule_core.proofs.hosting.make_root.Given as goal

abbrev pub ghost-place_root : goal.ghost-place_root
ghost-place_root a = root_placement a.line.now a.task.now (view a.pass.now)
