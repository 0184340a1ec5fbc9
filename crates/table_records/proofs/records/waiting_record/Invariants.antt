use Rattle.step_table.specs.Passes.{view}
use Rattle.table_records.specs.Makers.{placement_by}
use Rattle.table_records.proofs.records.waiting_record.Given as goal

abbrev pub ghost-place_waiting : goal.ghost-place_waiting
ghost-place_waiting g a = placement_by a._maker.now.unit a._behind (view a.pass.now)
