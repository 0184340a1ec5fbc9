use Rattle.std.proofs.Common.{None}
use Rattle.table_records.proofs.stages.number.Given as goal

abbrev pub ghost-see_drawn : goal.ghost-see_drawn
ghost-see_drawn g a = record { asker = None; move = None }

abbrev pub ghost-draw_for_run : goal.ghost-draw_for_run
ghost-draw_for_run g a = g.call
