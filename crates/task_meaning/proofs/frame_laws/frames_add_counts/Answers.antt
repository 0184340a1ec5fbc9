use Rattle.task_meaning.proofs.Ahead.{jumps_ahead}
use Rattle.task_meaning.proofs.FrameCounts.{spawns-counts}
use Rattle.task_meaning.proofs.FrameCountsOn.{aggregates-counts, reads-counts, respawns-counts, ends-counts_rest, traps-counts_rest}
use Rattle.task_meaning.proofs.frame_laws.frames_add_counts.Goals as goal

pub returns-clause-spawn : goal.returns-clause-spawn
returns-clause-spawn c p d accepted waits q to call x k formed = spawns-counts p d (jumps_ahead p formed) accepted waits q to call x k

pub returns-clause-aggregate : goal.returns-clause-aggregate
returns-clause-aggregate c p d accepted waits q to members tasks k formed = aggregates-counts p d (jumps_ahead p formed) accepted waits q to members tasks k

pub returns-clause-read : goal.returns-clause-read
returns-clause-read c p d accepted waits q to x t i k formed = reads-counts p d (jumps_ahead p formed) accepted waits q to x t i k

pub returns-clause-respawn : goal.returns-clause-respawn
returns-clause-respawn c p d accepted waits q target task x k formed = respawns-counts p d (jumps_ahead p formed) accepted waits q target task x k

pub returns-clause-finish : goal.returns-clause-finish
returns-clause-finish c p d accepted waits q w k formed = ends-counts_rest p d (jumps_ahead p formed) accepted waits q w k

pub returns-clause-trap : goal.returns-clause-trap
returns-clause-trap c p d accepted waits q to x t w k formed = traps-counts_rest p d (jumps_ahead p formed) accepted waits q to x t w k
