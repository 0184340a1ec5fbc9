use Rattle.std.proofs.Common.{drop}
use Rattle.std.specs.List.{flat_map}
use Rattle.record_core.specs.RootEnds.{root_passed}
use Rattle.step_table.specs.Passes.{view}
use Rattle.schedule_core.proofs.MissingRoots.{IsLookingOn}
use Rattle.schedule_core.proofs.named_roots.missing_argument.Given as goal

abbrev pub invariant-arguments : goal.invariant-arguments
invariant-arguments l = IsLookingOn (view l.pass) (flat_map root_passed l.arguments) (flat_map root_passed (drop l.at l.arguments))
