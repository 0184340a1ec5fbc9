-- The records of a file of columns.
use Rattle.std.specs.Prelude.{ℕ, List}
use Rattle.csv.specs.Reading.{default_config, records, strip_bom}

-- a field is the list of its bytes, and a record the list of its fields
abbrev pub Field : Type 0
Field = List ℕ

abbrev pub Record : Type 0
Record = List Field

-- the records of a file with comma separated fields, the header among them; a mark at the start is dropped once
abbrev pub records_of : List ℕ → List Record
records_of bytes = records default_config (strip_bom bytes)
