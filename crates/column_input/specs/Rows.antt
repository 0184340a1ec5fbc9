-- One row of numbers, put below columns.
use Rattle.std.specs.Prelude.{ℕ, List, [], ◌∷◌, ◌++◌}
use Rattle.std.specs.Str.Parse.{digits_value}
use Rattle.column_input.specs.Records.{Record}

-- the columns with one more row below each
unfoldable pub put_below : List (List ℕ) → Record → List (List ℕ)
put_below [] fields = []
put_below (column ∷ columns) [] = column ∷ columns
put_below (column ∷ columns) (field ∷ fields) = (column ++ digits_value 10 field ∷ []) ∷ put_below columns fields
