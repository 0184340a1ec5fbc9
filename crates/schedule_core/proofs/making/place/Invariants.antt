use Rattle.schedule_core.proofs.making.place.Given as goal

abbrev pub ghost-ready_made : goal.ghost-ready_made
ghost-ready_made g a = g.placement

abbrev pub ghost-wait_made : goal.ghost-wait_made
ghost-wait_made g a = g.placement
