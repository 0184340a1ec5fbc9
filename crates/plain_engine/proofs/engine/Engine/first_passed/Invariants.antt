use Rattle.std.proofs.Common.{◌≡◌, drop}
use Rattle.std.specs.List.{flat_map}
use Rattle.record_core.specs.RootEnds.{root_passed}
use Rattle.plain_state.specs.Laws.{first_without_task}
use Rattle.plain_engine.proofs.engine.Engine.first_passed.Given as goal

abbrev pub invariant-arguments : goal.invariant-arguments
invariant-arguments l = first_without_task l.self.roots (flat_map root_passed (drop l.argument-index l.arguments)) ≡ first_without_task l.self.roots (flat_map root_passed l.arguments)
