use Rattle.schedule_core.proofs.asking.make_in.Given as goal

abbrev pub ghost-see_drawn : goal.ghost-see_drawn
ghost-see_drawn g a = g.asking
