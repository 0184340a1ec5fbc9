use Rattle.std.proofs.Common.{length}
use Rattle.task_check.specs.Ways.{AreArrived}
use Rattle.task_check.specs.Faults.{IsFirst, LineFault}
use Rattle.task_check.proofs.First.{Below}
use Rattle.task_check.proofs.state.code_fault.Given as goal

abbrev pub invariant-places : goal.invariant-places
invariant-places l = record {
  arrived : AreArrived (length l.kind.variables) l.state l.at l.arriving.items;
  first : IsFirst (Below l.state.code (λ at line f. LineFault l.program l.kind l.state at line f) l.at) l.first;
}
