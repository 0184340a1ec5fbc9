use Rattle.std.proofs.Common.{None}
use Rattle.table_records.specs.Plain.{call_behind}
use Rattle.table_records.proofs.opening.draft_root.Given as goal

abbrev pub ghost-number_root : goal.ghost-number_root
ghost-number_root g a = call_behind None
