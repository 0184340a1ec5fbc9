use Rattle.schedule_core.proofs.moves.see_frame.Given as goal

abbrev pub ghost-see_drawn : goal.ghost-see_drawn
ghost-see_drawn g a = g.asking
