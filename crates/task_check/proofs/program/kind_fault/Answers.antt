use Rattle.task_check.specs.Faults.{SizeFault, StateFault, SomeAt}
use Rattle.task_check.proofs.First.{first-earlier}
use Rattle.task_check.proofs.program.kind_fault.Goals as goal

pub returns : goal.returns
returns c =
    rw c.earlier.ensures (first-earlier (SizeFault c.args.kind.now) (λ f. SomeAt c.args.kind.now.states (λ place state. StateFault c.args.program.now c.args.kind.now place state f))
    c.in_ok-size.size c.in_ok-states.states c.in_ok-size.ensures c.in_ok-states.ensures)
