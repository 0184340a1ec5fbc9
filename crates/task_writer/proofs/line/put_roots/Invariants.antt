use Rattle.task_writer.proofs.Vocabulary.{◌≡◌, ◌++◌, map, take, kind_names, root_names, root_line, text_of_lines}
use Rattle.task_writer.proofs.line.put_roots.Given as goal

abbrev pub invariant-loop-root : goal.invariant-loop-root
invariant-loop-root l = l.out.items ≡ l.initial.out.items ++ text_of_lines (map (root_line (kind_names l.kinds) (root_names l.roots)) (take l.root-index l.roots))
