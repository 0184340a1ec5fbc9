use Rattle.schedule_core.proofs.Sweeping.{IsSweeping}
use Rattle.schedule_core.proofs.taking.sweep.Given as goal

abbrev pub invariant-units : goal.invariant-units
invariant-units l = IsSweeping l.unit l.fn.pass l.pass
