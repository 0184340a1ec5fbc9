use Rattle.task_lines.proofs.list.read_kind_arguments.Goals as goal

pub returns : goal.returns
returns c = rw c.new.ensures at c.further.ensures
