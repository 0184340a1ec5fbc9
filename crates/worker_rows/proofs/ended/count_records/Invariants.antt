use Rattle.std.specs.Prelude.{◌≤◌}
use Rattle.step_table.specs.Passes.{view, IsSame}
use Rattle.worker_rows.specs.Left.{SeesRecords}
use Rattle.worker_rows.proofs.ended.count_records.Given as goal

abbrev pub invariant-units : goal.invariant-units
invariant-units l = IsSame l.fn.pass l.pass × SeesRecords l.unit l.done l.going (view l.fn.pass) (view l.pass) × (l.done ≤ l.unit) × (l.going ≤ l.unit)
