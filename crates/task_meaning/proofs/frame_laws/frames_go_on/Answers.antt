use Rattle.task_meaning.proofs.Ahead.{jumps_ahead}
use Rattle.task_meaning.proofs.Frames.{spawns-rest}
use Rattle.task_meaning.proofs.FrameEnds.{aggregates-rest, reads-rest, respawns-rest}
use Rattle.task_meaning.proofs.frame_laws.frames_go_on.Goals as goal

pub returns-clause-spawn : goal.returns-clause-spawn
returns-clause-spawn c p d accepted waits q to call x v formed = spawns-rest p d (jumps_ahead p formed) accepted waits q to call x v

pub returns-clause-aggregate : goal.returns-clause-aggregate
returns-clause-aggregate c p d accepted waits q to members tasks v formed = aggregates-rest p d (jumps_ahead p formed) accepted waits q to members tasks v

pub returns-clause-read : goal.returns-clause-read
returns-clause-read c p d accepted waits q to x t k v formed = reads-rest p d (jumps_ahead p formed) accepted waits q to x t k v

pub returns-clause-respawn : goal.returns-clause-respawn
returns-clause-respawn c p d accepted waits q target task x v formed = respawns-rest p d (jumps_ahead p formed) accepted waits q target task x v
