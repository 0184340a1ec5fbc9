use Rattle.std.proofs.Common.{drop, map}
use Rattle.frame_code.specs.Entries.{future_of}
use Rattle.frame_code.specs.Names.{present}
use Rattle.step_table.specs.Passes.{plan}
use Rattle.schedule_core.proofs.SeeingTasks.{IsSeeingEach}
use Rattle.schedule_core.proofs.sights.see_passed.Given as goal

abbrev pub invariant-passed : goal.invariant-passed
invariant-passed l = IsSeeingEach (plan l.shared) (present (map future_of l.passed)) (present (map future_of (drop l.at l.passed))) l.fn.pass l.pass
