use Rattle.task_check.proofs.Lacks.{asks_held-within}
use Rattle.task_check.proofs.line.not_held.Goals as goal

pub first_lacking-requires-clause-within : goal.first_lacking-requires-clause-within
first_lacking-requires-clause-within c =
    let f = c.requires.line in
    rw (c.as_slice-asked.ensures.value, c.in_ok-futures.ensures) (asks_held-within c.args.program.now c.args.kind.now f.0 f.1 c.args.line.now.instr f.2)

pub returns : goal.returns
returns c =
    let same = rw (c.as_slice-asked.ensures.value, c.in_ok-futures.ensures) at c.first_lacking.ensures in
    same
