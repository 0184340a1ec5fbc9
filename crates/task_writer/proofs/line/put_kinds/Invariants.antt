use Rattle.task_writer.proofs.Vocabulary.{◌≡◌, ◌++◌, take, flat_map, text_of_lines, kind_names, kind_lines}
use Rattle.task_writer.proofs.line.put_kinds.Given as goal

abbrev pub invariant-loop-kind : goal.invariant-loop-kind
invariant-loop-kind l = l.out.items ≡ l.initial.out.items ++ text_of_lines (flat_map (kind_lines (kind_names l.kinds)) (take l.kind-index l.kinds))
