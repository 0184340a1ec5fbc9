-- The causes for which columns are refused: their numbers, their words, and their order in one row.
use Rattle.std.specs.Prelude.{ℕ, List, codes}
use Rattle.column_input.specs.declared.fault.Cause.{Cause}
use Rattle.column_input.specs.declared.fault.Cause.TheVariants.{NoHeader, TwiceNamed, Ragged, BadNumber, TooManyRows, TooManyColumns}

abbrev pub code_of : Cause → ℕ
code_of NoHeader = 1
code_of TwiceNamed = 2
code_of Ragged = 3
code_of BadNumber = 4
code_of TooManyRows = 5
code_of TooManyColumns = 6

abbrev pub word_of : Cause → List ℕ
word_of NoHeader = codes "NoHeader"
word_of TwiceNamed = codes "TwiceNamed"
word_of Ragged = codes "Ragged"
word_of BadNumber = codes "BadNumber"
word_of TooManyRows = codes "TooManyRows"
word_of TooManyColumns = codes "TooManyColumns"

-- which causes come first in one row, the header being row 0
abbrev pub rank : Cause → ℕ
rank NoHeader = 0
rank TooManyColumns = 1
rank TwiceNamed = 2
rank TooManyRows = 3
rank Ragged = 4
rank BadNumber = 5
