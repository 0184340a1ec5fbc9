use Rattle.task_text.proofs.Lining.{lines_of-split, lines_of-whole}
use Rattle.task_text.proofs.lines.split_line.Goals as goal

pub returns-in-empty-clause-lines : goal.returns-in-empty-clause-lines
returns-in-empty-clause-lines c =
    lines_of-whole c.args.text.now c.split_at.result.0.now c.split_at.result.1.now c.len_before.result c.requires c.len_before.ensures.value c.split_at.ensures.front c.split_at.ensures.back c.in-empty.len_below

pub returns-in-len1-up-clause-lines : goal.returns-in-len1-up-clause-lines
returns-in-len1-up-clause-lines c =
    lines_of-split c.args.text.now c.split_at.result.0.now c.split_at.result.1.now c.len_before.result c.requires c.len_before.ensures.value c.split_at.ensures.front c.split_at.ensures.back
