use Rattle.table_records.proofs.records.place_waiting.Given as goal

abbrev pub ghost-wait_made : goal.ghost-wait_made
ghost-wait_made g a = g.placement
