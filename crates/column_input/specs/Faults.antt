-- Which faults records have, and which of them is the first.
use Rattle.std.specs.Prelude.{◌≡◌, ◌≢◌, ℕ, ◌+◌, ◌<◌, ◌⊎◌, Some, Result, Ok, Err, false, List, [], length, slice_get}
use Rattle.task_syntax.specs.declared.columns.Columns.{Columns}
use Rattle.task_text.specs.Scan.{is_number}
use Rattle.column_input.specs.declared.fault.Cause.{Cause}
use Rattle.column_input.specs.declared.fault.Cause.TheVariants.{NoHeader, TwiceNamed, Ragged, BadNumber, TooManyRows, TooManyColumns}
use Rattle.column_input.specs.declared.fault.ColumnError.{ColumnError}
use Rattle.column_input.specs.declared.fault.ColumnError.TheVariants as error
use Rattle.column_input.specs.Causes.{rank}
use Rattle.column_input.specs.Records.{Field, Record}
use Rattle.column_input.specs.Reading.{Fault, fault_at}

-- the name at a place of the header, counted from 0, stands at an earlier one too
abbrev pub IsAgain : Record → ℕ → Type 0
IsAgain header place = (earlier : ℕ) × (name : Field) × (earlier < place) × (slice_get header earlier ≡ Some name) × (slice_get header place ≡ Some name)

-- the record is one of the rows, which are counted from 1
abbrev pub IsRow : List Record → ℕ → Record → Type 0
IsRow records row fields = (0 < row) × (slice_get records row ≡ Some fields)

-- a cause stands at a row and a column
abbrev pub HasCause : List Record → Cause → ℕ → ℕ → Type 0
HasCause records NoHeader row column = (row ≡ 0) × (column ≡ 0) × (records ≡ [])
HasCause records TooManyColumns row column = (row ≡ 0) × (column ≡ 17) × (header : Record) × (slice_get records 0 ≡ Some header) × (16 < length header)
HasCause records TwiceNamed row column =
    (row ≡ 0) × (header : Record) × (place : ℕ) × (column ≡ place + 1) × (slice_get records 0 ≡ Some header) × IsAgain header place
HasCause records TooManyRows row column = (row ≡ 1000001) × (column ≡ 0) × (row < length records)
HasCause records Ragged row column =
    (column ≡ 0) × (header fields : Record) × (slice_get records 0 ≡ Some header) × IsRow records row fields × (length fields ≢ length header)
HasCause records BadNumber row column =
    (fields : Record) × (place : ℕ) × (field : Field) × (column ≡ place + 1) × IsRow records row fields
    × (slice_get fields place ≡ Some field) × (is_number field ≡ false)

abbrev pub HasFault : List Record → Fault → Type 0
HasFault records fault = HasCause records fault.cause fault.row fault.column

-- a fault comes before another: by rows, in a row by the order of causes, and of one cause by columns
abbrev pub Precedes : Fault → Fault → Type 0
Precedes one other =
    (one.row < other.row)
    ⊎ ((one.row ≡ other.row) × (rank one.cause < rank other.cause))
    ⊎ ((one.row ≡ other.row) × (one.cause ≡ other.cause) × (one.column < other.column))

-- the records have the fault, and each other one comes after it
pub record IsFirst (records : List Record) (fault : Fault) : Type 0 where
  pub here : HasFault records fault
  pub before_all : (other : Fault) → HasFault records other → (other ≡ fault) ⊎ Precedes fault other

-- a fault that is told is the first
abbrev pub TellsFirst : List Record → Result Columns ColumnError → Type 0
TellsFirst records (Ok columns) = Unit {0}
TellsFirst records (Err (error.Fault cause row column)) = IsFirst records (fault_at cause row column)
TellsFirst records (Err error.Memory) = Unit {0}

-- the fault is told, unless memory fails
abbrev pub Tells : Fault → Result Columns ColumnError → Type 0
Tells fault (Ok columns) = ⊥
Tells fault (Err (error.Fault cause row column)) = fault ≡ fault_at cause row column
Tells fault (Err error.Memory) = Unit {0}
