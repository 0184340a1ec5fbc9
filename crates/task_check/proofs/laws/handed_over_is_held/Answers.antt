use Rattle.task_check.proofs.HandedOver.{spawns-held, respawns-held}
use Rattle.task_check.proofs.laws.handed_over_is_held.Goals as goal

pub returns-clause-spawn : goal.returns-clause-spawn
returns-clause-spawn c = spawns-held

pub returns-clause-respawn : goal.returns-clause-respawn
returns-clause-respawn c = respawns-held
