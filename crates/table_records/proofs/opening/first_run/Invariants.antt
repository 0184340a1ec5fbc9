use Rattle.table_records.proofs.RootFacts.{root_placement}
use Rattle.table_records.proofs.opening.first_run.Given as goal

abbrev pub ghost-ready_made : goal.ghost-ready_made
ghost-ready_made g a = root_placement
