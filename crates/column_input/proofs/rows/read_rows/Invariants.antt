use Rattle.std.proofs.Common.{length}
use Rattle.column_input.specs.Reader.{ahead, IsReading}
use Rattle.column_input.proofs.Tabling.{Keeps}
use Rattle.column_input.proofs.rows.read_rows.Given as goal

abbrev pub invariant-rows : goal.invariant-rows
invariant-rows l = IsReading l.reader × Keeps l.width l.row l.columns.items (ahead l.reader) (ahead l.fn.reader)

abbrev pub decreases-rows : goal.decreases-rows
decreases-rows l = length (ahead l.reader)
