-- Laws of what records give.
use Rattle.std.specs.Prelude.{◌≡◌, ◌↔◌, ℕ, ◌+◌, Ok, Err, Some, List, length, slice_get}
use Rattle.task_syntax.specs.Columns.{cell_of, rows_of}
use Rattle.task_syntax.specs.declared.columns.Columns.{Columns}
use Rattle.csv.specs.Reading.{AreRecords, default_config, strip_bom}
use Rattle.csv.specs.declared.parser.State.TheVariants.{StartRecord}
use Rattle.column_input.specs.Faults.{IsFirst}
use Rattle.column_input.specs.Records.{Field, Record, records_of}
use Rattle.column_input.specs.Reading.{Fault, columns_in}
use Rattle.column_input.specs.Table.{Tabulates, cell_at}

-- the records of a file follow one another from its start, and behind the last there is none
abbrev pub EachRecordIsRead : Type 0
EachRecordIsRead = (bytes : List ℕ) → AreRecords default_config StartRecord (strip_bom bytes) (records_of bytes)

-- records give columns exactly where these are their table
abbrev pub GivesTable : Type 0
GivesTable = (records : List Record) (columns : Columns) → (columns_in records ≡ Ok columns) ↔ Tabulates records columns

-- and a fault exactly where it is their first
abbrev pub GivesFirst : Type 0
GivesFirst = (records : List Record) (fault : Fault) → (columns_in records ≡ Err fault) ↔ IsFirst records fault

-- under a name of a table stands the column at its place, with a cell for each record but the header
abbrev pub NameFindsColumn : Type 0
NameFindsColumn = (records : List Record) (columns : Columns) → Tabulates records columns → (place : ℕ) (name : Field)
    → slice_get columns.names place ≡ Some name
    → (rows_of columns name + 1 ≡ length records) × ((row : ℕ) → cell_of columns name row ≡ cell_at columns row place)
