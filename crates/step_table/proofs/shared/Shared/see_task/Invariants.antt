use Rattle.table_core.specs.Addresses.{task}
use Rattle.schedule_rule.specs.SeeingViews.{SeesTask}
use Rattle.step_table.proofs.shared.Shared.see_task.Given as goal

abbrev pub ghosts-load_as : goal.ghosts-load_as
ghosts-load_as a = let u = a._about.now.unit in record { at = task u; told = SeesTask a.self.now.setup.plan.limit u a.seat.now.me.0 }
