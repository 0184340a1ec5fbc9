use Rattle.std.proofs.Common.{◌≡◌}
use Rattle.plain_engine.specs.Roots.{ArePassedUpTo}
use Rattle.plain_engine.proofs.engine.Engine.passed_to.Given as goal

abbrev pub invariant-arguments : goal.invariant-arguments
invariant-arguments l = (l.argument-items ≡ l.root.arguments) × ArePassedUpTo l.self.roots l.root.arguments l.argument-index l.passed.items
