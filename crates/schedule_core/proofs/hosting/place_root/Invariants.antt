use Rattle.schedule_core.proofs.hosting.place_root.Given as goal

abbrev pub ghost-number_for_root : goal.ghost-number_for_root
ghost-number_for_root g a = g.placement.call

abbrev pub ghost-offer : goal.ghost-offer
ghost-offer g a = g.placement
