use Rattle.task_writer.proofs.Vocabulary.{◌≡◌, ◌++◌, map, take, Variable, variable_word, spaced}
use Rattle.task_writer.proofs.list.put_variables.Given as goal

abbrev pub invariant-loop-variable : goal.invariant-loop-variable
invariant-loop-variable l = l.out.items ≡ l.initial.out.items ++ spaced (map (λ (a : Variable). variable_word a) (take l.variable-index l.variables))
