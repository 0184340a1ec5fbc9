use Rattle.std.proofs.Common.{◌≡◌, ◌≤◌, ◌++◌, drop, length}
use Rattle.frame_code.specs.Stops.{numbers_passed}
use Rattle.frame_code.specs.Line.{numbers_of}
use Rattle.frame_code.proofs.request.pass_numbers.Given as goal

abbrev pub invariant-arguments : goal.invariant-arguments
invariant-arguments l = record {
  passed : l.numbers ++ numbers_passed (numbers_of l.kind l.words) (drop l.argument-index l.arguments) ≡ numbers_passed (numbers_of l.kind l.words) l.arguments;
  few : length l.numbers ≤ l.argument-index;
}
