use Rattle.std.proofs.Common.{drop}
use Rattle.step_table.specs.Passes.{plan}
use Rattle.schedule_core.proofs.SeeingTasks.{IsSeeingEach}
use Rattle.schedule_core.proofs.sights.see_members.Given as goal

abbrev pub invariant-units : goal.invariant-units
invariant-units l = IsSeeingEach (plan l.shared) l.units (drop l.unit-index l.units) l.fn.pass l.pass
