use Rattle.task_writer.proofs.Vocabulary.{◌≡◌, ◌++◌, take, flat_map, text_of_lines, kind_names, state_lines}
use Rattle.task_writer.proofs.line.put_states.Given as goal

abbrev pub invariant-loop-state : goal.invariant-loop-state
invariant-loop-state l = l.out.items ≡ l.initial.out.items ++ text_of_lines (flat_map (state_lines (kind_names l.kinds) l.kind) (take l.state-index l.states))
