use Rattle.schedule_core.proofs.asking.number_for_run.Given as goal

abbrev pub ghost-draw_for_run : goal.ghost-draw_for_run
ghost-draw_for_run g a = g.call
