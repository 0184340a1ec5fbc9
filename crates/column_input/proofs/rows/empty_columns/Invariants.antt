use Rattle.std.proofs.Common.{◌≡◌, [], replicate}
use Rattle.column_input.proofs.rows.empty_columns.Given as goal

abbrev pub invariant-columns : goal.invariant-columns
invariant-columns l = l.columns.items ≡ replicate l._place []
