use Rattle.task_check.proofs.First.{Below}
use Rattle.task_check.specs.Faults.{IsFirst, KindFault}
use Rattle.task_check.proofs.program.kinds_fault.Given as goal

abbrev pub invariant-kinds : goal.invariant-kinds
invariant-kinds l = IsFirst (Below l.program.kinds (λ _ kind f. KindFault l.program kind f) l.at) l.first
