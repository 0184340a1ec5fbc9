use Rattle.task_meaning.proofs.Ahead.{jumps_ahead}
use Rattle.task_meaning.proofs.FrameEnds.{ends-rest, traps-rest}
use Rattle.task_meaning.proofs.frame_laws.frames_end.Goals as goal

pub returns-clause-finish : goal.returns-clause-finish
returns-clause-finish c p d accepted waits q w v formed = ends-rest p d (jumps_ahead p formed) accepted waits q w v

pub returns-clause-trap : goal.returns-clause-trap
returns-clause-trap c p d accepted waits q to x t w v formed = traps-rest p d (jumps_ahead p formed) accepted waits q to x t w v
