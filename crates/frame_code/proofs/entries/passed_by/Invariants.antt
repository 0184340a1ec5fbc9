use Rattle.std.proofs.Common.{◌≡◌, length}
use Rattle.frame_code.proofs.PassedArguments.{ArePassedUpTo}
use Rattle.frame_code.proofs.entries.passed_by.Given as goal

abbrev pub invariant-arguments : goal.invariant-arguments
invariant-arguments l = record {
  so_far : ArePassedUpTo l.checked l.request l.frame.items l.at l.passed l.number l.future;
  many : length l.passed ≡ l.at;
}
