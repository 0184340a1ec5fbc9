use Rattle.std.proofs.Common.{drop}
use Rattle.schedule_core.proofs.EachFacts.{IsDroppingEach}
use Rattle.schedule_core.proofs.respawning.drop_units.Given as goal

abbrev pub invariant-units : goal.invariant-units
invariant-units l = IsDroppingEach l.shared.setup l.units (drop l.unit-index l.units) l.fn.pass l.pass
