use Rattle.schedule_core.specs.NextNumbers.{asking_for}
use Rattle.schedule_core.proofs.respawning.respawn.Given as goal

abbrev pub ghost-is_open : goal.ghost-is_open
ghost-is_open a = asking_for a._task
