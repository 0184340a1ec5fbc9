use Rattle.table_core.specs.RecordViews.{asked_by}
use Rattle.step_table.specs.Passes.{view}
use Rattle.schedule_core.specs.RootStages.{asking_root}
use Rattle.schedule_core.proofs.hosting.root_in.Given as goal

abbrev pub ghost-make_in : goal.ghost-make_in
ghost-make_in a = asking_root (asked_by (view a.pass.now).turn)
