use Rattle.table_records.proofs.records.place_ready.Given as goal

abbrev pub ghost-ready_made : goal.ghost-ready_made
ghost-ready_made g a = g.placement
