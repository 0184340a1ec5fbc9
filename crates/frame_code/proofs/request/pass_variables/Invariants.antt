use Rattle.std.proofs.Common.{◌≡◌, ◌≤◌, ◌++◌, drop, length}
use Rattle.frame_code.specs.Stops.{variables_passed}
use Rattle.frame_code.proofs.request.pass_variables.Given as goal

abbrev pub invariant-arguments : goal.invariant-arguments
invariant-arguments l = record {
  passed : l.variables ++ variables_passed (drop l.argument-index l.arguments) ≡ variables_passed l.arguments;
  few : length l.variables ≤ l.argument-index;
}
