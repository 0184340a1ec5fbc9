use Rattle.std.proofs.Common.{◌≡◌}
use Rattle.step_table.specs.Passes.{view, IsOf}
use Rattle.table_records.specs.Makers.{IsMaker}
use Rattle.reference_rows.specs.Hands.{HasRecords}
use Rattle.reference_rows.proofs.filling.add_all.Given as goal

abbrev pub invariant-loop-record : goal.invariant-loop-record
invariant-loop-record g l = IsOf l.shared l.pass × ((view l.pass).runs ≡ (view l.fn.pass).runs) × HasRecords l.hand.futures l.hand.own (view l.pass)
