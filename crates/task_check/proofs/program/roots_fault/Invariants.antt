use Rattle.task_check.proofs.First.{Below}
use Rattle.task_check.specs.Faults.{IsFirst, RootFault}
use Rattle.task_check.proofs.program.roots_fault.Given as goal

abbrev pub invariant-roots : goal.invariant-roots
invariant-roots l = IsFirst (Below l.program.roots (λ _ root f. RootFault l.program root f) l.at) l.first
