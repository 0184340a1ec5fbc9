use Rattle.task_check.specs.Faults.{KindFault, RootFault, SomeAt}
use Rattle.task_check.proofs.First.{first-earlier}
use Rattle.task_check.proofs.program.program_fault.Goals as goal

pub returns : goal.returns
returns c =
    rw c.earlier.ensures (first-earlier (λ f. SomeAt c.args.program.now.kinds (λ _ kind. KindFault c.args.program.now kind f)) (λ f. SomeAt c.args.program.now.roots (λ _ root. RootFault c.args.program.now root f))
    c.in_ok-in_kinds.in_kinds c.in_ok-in_roots.in_roots c.in_ok-in_kinds.ensures c.in_ok-in_roots.ensures)
