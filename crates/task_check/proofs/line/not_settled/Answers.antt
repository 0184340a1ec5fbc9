use Rattle.task_check.proofs.line.not_settled.Goals as goal

pub returns : goal.returns
returns c =
    let same = rw (c.as_slice-asked.ensures.value, c.in_ok-futures.ensures) at c.first_lacking.ensures in
    same
