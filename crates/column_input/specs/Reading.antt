-- The columns that records give, or their first fault.
use Rattle.std.specs.Prelude.{◌≡◌, ℕ, zero, suc, ◌+◌, ◌==◌, nat_lt, if◌then◌else◌, Result, Ok, Err, List, [], ◌∷◌, ◌++◌, map, length, slice_index_or}
use Rattle.std.specs.Str.Parse.{digits_value}
use Rattle.task_syntax.specs.declared.columns.Columns.{Columns}
use Rattle.task_text.specs.Scan.{is_among, is_number}
use Rattle.column_input.specs.declared.fault.Cause.{Cause}
use Rattle.column_input.specs.declared.fault.Cause.TheVariants.{NoHeader, TwiceNamed, Ragged, BadNumber, TooManyRows, TooManyColumns}
use Rattle.column_input.specs.declared.fault.ColumnError.{ColumnError}
use Rattle.column_input.specs.declared.fault.ColumnError.TheVariants as error
use Rattle.column_input.specs.Records.{Field, Record}

abbrev pub most_columns : ℕ
most_columns = 16

abbrev pub most_rows : ℕ
most_rows = 1000000

-- a cause with its place: the row, which is 0 for the header, and the column, both counted from 1 and 0 where there is none
pub record Fault : Type 0 where
  pub cause : Cause
  pub row : ℕ
  pub column : ℕ

abbrev pub fault_at : Cause → ℕ → ℕ → Fault
fault_at cause row column = record { cause = cause; row = row; column = column }

-- what is asked next, where nothing was at fault so far
infixl 10 ◌>>=◌
abbrev pub ◌>>=◌ : {A B : Type 0} → Result A Fault → (A → Result B Fault) → Result B Fault
Ok a >>= next = next a
Err fault >>= next = Err fault

infixl 10 ◌>>◌
abbrev pub ◌>>◌ : {A B : Type 0} → Result A Fault → Result B Fault → Result B Fault
first >> next = first >>= (λ _. next)

-- ---- the header

-- the names from a column on are none of those before them, nor of one another
unfoldable pub check_names : List Field → ℕ → List Field → Result (Unit {0}) Fault
check_names before column [] = Ok tt
check_names before column (name ∷ names) =
    if is_among before name then Err (fault_at TwiceNamed 0 column) else check_names (before ++ name ∷ []) (column + 1) names

abbrev pub check_header : Record → Result (Unit {0}) Fault
check_header header =
    if nat_lt most_columns (length header) then Err (fault_at TooManyColumns 0 (most_columns + 1)) else check_names [] 1 header

-- the names of a header
abbrev pub names_in : Record → Result (List Field) Fault
names_in header = check_header header >> Ok header

-- ---- the rows below it

-- the fields from a column on are numbers
unfoldable pub check_numbers : ℕ → ℕ → List Field → Result (Unit {0}) Fault
check_numbers row column [] = Ok tt
check_numbers row column (field ∷ fields) =
    if is_number field then check_numbers row (column + 1) fields else Err (fault_at BadNumber row column)

-- a row of so many numbers
abbrev pub check_row : ℕ → ℕ → Record → Result (Unit {0}) Fault
check_row width row fields =
    if nat_lt most_rows row then Err (fault_at TooManyRows row 0)
    else if length fields == width then check_numbers row 1 fields
    else Err (fault_at Ragged row 0)

-- the rows from a number on
unfoldable pub check_rows : ℕ → ℕ → List Record → Result (Unit {0}) Fault
check_rows width row [] = Ok tt
check_rows width row (fields ∷ rows) = check_row width row fields >> check_rows width (row + 1) rows

-- ---- the columns

-- the number that a row has at a place
abbrev pub number_at : ℕ → Record → ℕ
number_at place fields = digits_value 10 (slice_index_or fields place [])

-- the numbers of so many columns, the first of which stands at a place, from the first row to the last
unfoldable pub cells_from : ℕ → ℕ → List Record → List (List ℕ)
cells_from place zero rows = []
cells_from place (suc count) rows = map (number_at place) rows ∷ cells_from (place + 1) count rows

-- the columns of rows of so many numbers
abbrev pub cells_in : ℕ → List Record → Result (List (List ℕ)) Fault
cells_in width rows = check_rows width 1 rows >> Ok (cells_from 0 width rows)

-- the first record is the header, and the others are rows
abbrev pub columns_in : List Record → Result Columns Fault
columns_in [] = Err (fault_at NoHeader 0 0)
columns_in (header ∷ rows) = do
  names ← names_in header
  cells ← cells_in (length names) rows
  Ok (record { names = names; cells = cells })

-- ---- what a function that reads ensures

-- the outcome is what the reading gives, or want of memory
abbrev pub Gives : {A : Type 0} → Result A ColumnError → Result A Fault → Type 0
Gives (Ok a) reading = reading ≡ Ok a
Gives (Err (error.Fault cause row column)) reading = reading ≡ Err (fault_at cause row column)
Gives (Err error.Memory) reading = Unit {0}
