use Rattle.frame_code.proofs.FirstFrames.{IsPutUpTo}
use Rattle.frame_code.proofs.entries.put_passed.Given as goal

abbrev pub invariant-passed : goal.invariant-passed
invariant-passed l = IsPutUpTo l.checked l.kind l.passed l.x l.words l.number l.future
