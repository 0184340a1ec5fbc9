use Rattle.table_records.specs.Plain.{call_behind}
use Rattle.table_records.proofs.stages.draft.Given as goal

abbrev pub ghost-number : goal.ghost-number
ghost-number g a = call_behind a._behind
