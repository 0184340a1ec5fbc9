use Rattle.std.proofs.Common.{◌≡◌, ◌+◌, length, take, drop}
use Rattle.csv.specs.Records.{fields_of}
use Rattle.column_input.specs.Reading.{check_numbers}
use Rattle.column_input.specs.Rows.{put_below}
use Rattle.column_input.proofs.rows.add_numbers.Given as goal

abbrev pub invariant-fields : goal.invariant-fields
invariant-fields l =
    (length l.columns.items ≡ length l.fn.columns.items)
    × (l.columns.items ≡ put_below l.fn.columns.items (take l.place (fields_of l.fields)))
    × (check_numbers l.row (l.place + 1) (drop l.place (fields_of l.fields)) ≡ check_numbers l.row 1 (fields_of l.fields))
