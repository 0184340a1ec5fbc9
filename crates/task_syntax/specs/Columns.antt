-- What columns of numbers hold under a name.
use Rattle.std.specs.Prelude.{ℕ, cond, Option, List, [], ◌∷◌, length, slice_get}
use Rattle.task_syntax.specs.Names.{same_bytes}
use Rattle.task_syntax.specs.declared.columns.Columns.{Columns}

-- no column has a name
abbrev pub no_columns : Columns
no_columns = record { names = []; cells = [] }

-- the cells beside the first of these names that is this one
abbrev pub cells_beside : List ℕ → List (List ℕ) → List (List ℕ) → List ℕ
cells_beside name [] cells = []
cells_beside name (n ∷ names) [] = []
cells_beside name (n ∷ names) (column ∷ columns) = cond (same_bytes name n) column (cells_beside name names columns)

-- the cells of a column; a name that is not there has none
abbrev pub cells_of : Columns → List ℕ → List ℕ
cells_of c name = cells_beside name c.names c.cells

-- the number of rows of a column
abbrev pub rows_of : Columns → List ℕ → ℕ
rows_of c name = length (cells_of c name)

-- the cell of a column in a row, counted from 0
abbrev pub cell_of : Columns → List ℕ → ℕ → Option ℕ
cell_of c name row = slice_get (cells_of c name) row
