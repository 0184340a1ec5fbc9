use Rattle.step_table.specs.Passes.{view}
use Rattle.table_records.specs.Makers.{placement_by}
use Rattle.table_records.proofs.records.ready_record.Given as goal

abbrev pub ghost-place_ready : goal.ghost-place_ready
ghost-place_ready g a = placement_by a._maker.now.unit a._behind (view a.pass.now)
