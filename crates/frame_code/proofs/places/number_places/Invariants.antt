use Rattle.std.proofs.Common.{◌≡◌, ◌+◌, ◌≤◌, ◌++◌, drop, length}
use Rattle.frame_code.specs.Line.{places_from}
use Rattle.frame_code.proofs.places.number_places.Given as goal

abbrev pub invariant-variables : goal.invariant-variables
invariant-variables l = record {
  placed : l.places.items ++ places_from l.next (drop l.variable-index l.variables) ≡ places_from 1 l.variables;
  as_many : length l.places.items ≡ l.variable-index;
  near : l.next ≤ l.variable-index + 1;
}
