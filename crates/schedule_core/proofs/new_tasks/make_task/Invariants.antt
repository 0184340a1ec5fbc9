use Rattle.step_table.specs.Passes.{view}
use Rattle.schedule_core.specs.NewTasks.{placement_of}
use Rattle.schedule_core.proofs.new_tasks.make_task.Given as goal

abbrev pub ghost-place_new : goal.ghost-place_new
ghost-place_new a = placement_of a.shared.now.setup a.running.now a.made a.new.now a.behind (view a.pass.now)
