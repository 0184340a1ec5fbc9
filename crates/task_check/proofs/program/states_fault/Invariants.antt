use Rattle.task_check.proofs.First.{Below}
use Rattle.task_check.specs.Faults.{IsFirst, StateFault}
use Rattle.task_check.proofs.program.states_fault.Given as goal

abbrev pub invariant-states : goal.invariant-states
invariant-states l = IsFirst (Below l.kind.states (λ place state f. StateFault l.program l.kind place state f) l.at) l.first
