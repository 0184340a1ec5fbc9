use Rattle.schedule_core.proofs.making.offer.Given as goal

abbrev pub ghost-place : goal.ghost-place
ghost-place g a = g.placement
