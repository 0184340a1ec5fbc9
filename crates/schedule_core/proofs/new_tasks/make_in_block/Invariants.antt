use Rattle.schedule_core.proofs.new_tasks.make_in_block.Given as goal

abbrev pub ghost-make_in : goal.ghost-make_in
ghost-make_in g a = g.asking
