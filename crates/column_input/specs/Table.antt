-- Records as a table of numbers under names, said place by place.
use Rattle.std.specs.Prelude.{◌≡◌, ℕ, ◌+◌, ◌≤◌, Option, Some, Result, Ok, Err, List, length, slice_get, IsTrue}
use Rattle.std.specs.Option.{option_and_then}
use Rattle.std.specs.Str.Parse.{digits_value}
use Rattle.task_syntax.specs.Places.{EachAt, AllDiffer}
use Rattle.task_syntax.specs.declared.columns.Columns.{Columns}
use Rattle.task_text.specs.Scan.{is_number}
use Rattle.column_input.specs.declared.fault.ColumnError.{ColumnError}
use Rattle.column_input.specs.declared.fault.ColumnError.TheVariants as error
use Rattle.column_input.specs.Records.{Field, Record}

-- the number in a row of a column, both counted from 0
abbrev pub cell_at : Columns → ℕ → ℕ → Option ℕ
cell_at columns row column = option_and_then (λ cells. slice_get cells row) (slice_get columns.cells column)

-- the field spells the number that the cell holds
abbrev pub Spells : Field → Option ℕ → Type 0
Spells field cell = IsTrue (is_number field) × (cell ≡ Some (digits_value 10 field))

-- the first record has the names, at most 16 and all different; each of the others, at most 1,000,000, has a field for each
-- name, and spells there the number that stands in its row of the column of that name; the columns hold nothing else
pub record Tabulates (records : List Record) (columns : Columns) : Type 0 where
  pub header : slice_get records 0 ≡ Some columns.names
  pub few_names : length columns.names ≤ 16
  pub names_differ : AllDiffer columns.names
  pub few_rows : length records ≤ 1000001
  pub rows_full : (row : ℕ) (fields : Record) → slice_get records (row + 1) ≡ Some fields → length fields ≡ length columns.names
  pub numbers : (row column : ℕ) (fields : Record) (field : Field) → slice_get records (row + 1) ≡ Some fields
      → slice_get fields column ≡ Some field → Spells field (cell_at columns row column)
  pub column_each : length columns.cells ≡ length columns.names
  pub cell_each : EachAt columns.cells (λ column cells. length cells + 1 ≡ length records)

-- the columns are answered, unless memory fails
abbrev pub Answers : Columns → Result Columns ColumnError → Type 0
Answers columns (Ok answer) = answer ≡ columns
Answers columns (Err (error.Fault cause row column)) = ⊥
Answers columns (Err error.Memory) = Unit {0}
