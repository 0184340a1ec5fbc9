use Rattle.std.proofs.Common.{◌≡◌, ◌+◌, drop, take, []}
use Rattle.csv.specs.Records.{fields_of}
use Rattle.column_input.specs.Reading.{check_names}
use Rattle.column_input.proofs.header.names_of.Given as goal

abbrev pub invariant-names : goal.invariant-names
invariant-names l =
    (l.names ≡ take l.place (fields_of l.header))
    × (check_names l.names (l.place + 1) (drop l.place (fields_of l.header)) ≡ check_names [] 1 (fields_of l.header))
