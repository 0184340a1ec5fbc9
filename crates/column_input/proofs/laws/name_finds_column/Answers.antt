use Rattle.column_input.proofs.Named.{name-finds}
use Rattle.column_input.proofs.laws.name_finds_column.Goals as goal

pub returns : goal.returns
returns c = name-finds
