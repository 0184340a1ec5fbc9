use Rattle.task_check.proofs.LineFaults.{line-first}
use Rattle.task_check.proofs.line.line_fault.Goals as goal

pub returns : goal.returns
returns c = λ state at agreed.
    rw (c.earlier.ensures, c.earlier-front.ensures, c.earlier-back.ensures)
    (line-first c.args.program.now c.args.kind.now state at c.args.known.now agreed c.args.line.now c.requires.line
    c.in_ok-misfit.misfit c.in_ok-not_held.not_held c.in_ok-not_settled.not_settled c.in_ok-state_needs.state_needs
    (c.in_ok-misfit.ensures) (c.in_ok-not_held.ensures) (c.in_ok-not_settled.ensures) (c.in_ok-state_needs.ensures))
