use Rattle.schedule_core.proofs.respawning.is_open.Given as goal

abbrev pub ghost-see_drawn : goal.ghost-see_drawn
ghost-see_drawn g a = g.asking
