use Rattle.schedule_core.specs.NewTasks.{asking_of}
use Rattle.schedule_core.proofs.spawning.spawn_block.Given as goal

abbrev pub ghost-make_in_block : goal.ghost-make_in_block
ghost-make_in_block a = asking_of a.running.now
