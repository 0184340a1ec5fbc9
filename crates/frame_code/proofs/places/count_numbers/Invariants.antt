use Rattle.std.proofs.Common.{◌≡◌, ◌+◌, ◌≤◌, drop}
use Rattle.frame_code.specs.Words.{number_count}
use Rattle.frame_code.proofs.places.count_numbers.Given as goal

abbrev pub invariant-variables : goal.invariant-variables
invariant-variables l = record {
  counted : l.count + number_count (drop l.variable-index l.variables) ≡ number_count l.variables;
  few : l.count ≤ l.variable-index;
}
