use Rattle.schedule_core.specs.Moves.{looking_at}
use Rattle.schedule_core.proofs.moves.drop_loose.Given as goal

abbrev pub ghost-see_frame : goal.ghost-see_frame
ghost-see_frame a = looking_at a._running.now
