use Rattle.schedule_core.proofs.new_tasks.place_new.Given as goal

abbrev pub ghost-number_for_run : goal.ghost-number_for_run
ghost-number_for_run g a = g.placement.call

abbrev pub ghost-offer : goal.ghost-offer
ghost-offer g a = g.placement
