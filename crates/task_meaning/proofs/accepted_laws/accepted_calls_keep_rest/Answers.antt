use Rattle.task_meaning.proofs.Ahead.{jumps_ahead}
use Rattle.task_meaning.proofs.Frames.{accepted_spawns-rest}
use Rattle.task_meaning.proofs.FrameEnds.{accepted_aggregates-rest, accepted_respawns-rest}
use Rattle.task_meaning.proofs.accepted_laws.accepted_calls_keep_rest.Goals as goal

pub returns-clause-spawn : goal.returns-clause-spawn
returns-clause-spawn c p d accepted position waits q to call x v formed = accepted_spawns-rest p d (jumps_ahead p formed) accepted position waits q to call x v

pub returns-clause-aggregate : goal.returns-clause-aggregate
returns-clause-aggregate c p d accepted position waits q to members tasks v formed =
    accepted_aggregates-rest p d (jumps_ahead p formed) accepted position waits q to members tasks v

pub returns-clause-respawn : goal.returns-clause-respawn
returns-clause-respawn c p d accepted waits q target x v formed = accepted_respawns-rest p d (jumps_ahead p formed) accepted waits q target x v
