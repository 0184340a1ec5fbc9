use Rattle.task_meaning.proofs.Ahead.{jumps_ahead}
use Rattle.task_meaning.proofs.FrameCounts.{accepted_spawns-counts}
use Rattle.task_meaning.proofs.FrameCountsOn.{accepted_aggregates-counts, accepted_respawns-counts}
use Rattle.task_meaning.proofs.accepted_laws.accepted_calls_add_counts.Goals as goal

pub returns-clause-spawn : goal.returns-clause-spawn
returns-clause-spawn c p d accepted position waits q to call x k formed = accepted_spawns-counts p d (jumps_ahead p formed) accepted position waits q to call x k

pub returns-clause-aggregate : goal.returns-clause-aggregate
returns-clause-aggregate c p d accepted position waits q to members tasks k formed =
    accepted_aggregates-counts p d (jumps_ahead p formed) accepted position waits q to members tasks k

pub returns-clause-respawn : goal.returns-clause-respawn
returns-clause-respawn c p d accepted waits q target x k formed = accepted_respawns-counts p d (jumps_ahead p formed) accepted waits q target x k
