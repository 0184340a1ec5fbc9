use Rattle.std.proofs.Common.{drop}
use Rattle.std.specs.List.{flat_map}
use Rattle.record_core.specs.RootEnds.{root_passed}
use Rattle.step_table.specs.Passes.{plan}
use Rattle.schedule_core.proofs.PassedRoots.{IsPassing}
use Rattle.schedule_core.proofs.named_roots.pass_roots.Given as goal

abbrev pub invariant-arguments : goal.invariant-arguments
invariant-arguments l = IsPassing (plan l.shared) l.arguments (flat_map root_passed (drop l.at l.arguments)) l.at l.passed.items l.fn.pass l.pass
