use Rattle.std.proofs.Common.{drop, map}
use Rattle.frame_code.specs.Entries.{future_of}
use Rattle.frame_code.specs.Names.{present}
use Rattle.schedule_core.proofs.EachFacts.{IsDroppingEach}
use Rattle.schedule_core.proofs.named_roots.drop_passed.Given as goal

abbrev pub invariant-passed : goal.invariant-passed
invariant-passed l = IsDroppingEach l.shared.setup (present (map future_of l.passed)) (present (map future_of (drop l.at l.passed))) l.fn.pass l.pass
