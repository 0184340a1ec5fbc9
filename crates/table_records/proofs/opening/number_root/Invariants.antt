use Rattle.std.proofs.Common.{None}
use Rattle.table_records.proofs.opening.number_root.Given as goal

abbrev pub ghost-see_drawn : goal.ghost-see_drawn
ghost-see_drawn g a = record { asker = None; move = None }

abbrev pub ghost-draw_for_root : goal.ghost-draw_for_root
ghost-draw_for_root g a = g.call
