use Rattle.schedule_core.proofs.hosting.number_for_root.Given as goal

abbrev pub ghost-draw_for_root : goal.ghost-draw_for_root
ghost-draw_for_root g a = g.call
