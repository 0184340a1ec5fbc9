use Rattle.task_writer.proofs.Vocabulary.{◌≡◌, ◌++◌, take, kind_names, names_in, code_lines, text_of_lines}
use Rattle.task_writer.proofs.line.put_code.Given as goal

abbrev pub invariant-loop-line : goal.invariant-loop-line
invariant-loop-line l = l.out.items ≡ l.initial.out.items ++ text_of_lines (code_lines (names_in (kind_names l.kinds) l.kind l.state) (take l.line-index l.code))
