use Rattle.task_check.proofs.HandedOver.{spawns-settled, respawns-settled, roots-predecessor}
use Rattle.task_check.proofs.laws.handed_over_is_settled.Goals as goal

pub returns-clause-spawn : goal.returns-clause-spawn
returns-clause-spawn c = spawns-settled

pub returns-clause-respawn : goal.returns-clause-respawn
returns-clause-respawn c = respawns-settled

pub returns-clause-root : goal.returns-clause-root
returns-clause-root c = roots-predecessor
