use Rattle.task_check.specs.Faults.{SomeAt, DeclaredFault, LineFault}
use Rattle.task_check.proofs.Places.{future-within}
use Rattle.task_check.proofs.First.{first-earlier}
use Rattle.task_check.proofs.state.state_fault.Goals as goal

pub declared_fault-requires-clause-holds : goal.declared_fault-requires-clause-holds
declared_fault-requires-clause-holds c = λ i x e. future-within c.args.kind.now x (c.requires.state.holds i x e)

pub declared_fault-requires-clause-settled : goal.declared_fault-requires-clause-settled
declared_fault-requires-clause-settled c = λ i x e. future-within c.args.kind.now x (c.requires.state.settled i x e)

pub returns : goal.returns
returns c =
    rw c.earlier.ensures (first-earlier (DeclaredFault c.args.kind.now c.args.at c.args.state.now) (λ f. SomeAt c.args.state.now.code (λ at line. LineFault c.args.program.now c.args.kind.now c.args.state.now at line f))
    c.in_ok-declared.declared c.in_ok-code.code c.in_ok-declared.ensures c.in_ok-code.ensures)
