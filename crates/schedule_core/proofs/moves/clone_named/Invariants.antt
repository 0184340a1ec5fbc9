use Rattle.schedule_core.specs.Moves.{looking}
use Rattle.schedule_core.proofs.moves.clone_named.Given as goal

abbrev pub ghost-see_frame : goal.ghost-see_frame
ghost-see_frame a = looking
