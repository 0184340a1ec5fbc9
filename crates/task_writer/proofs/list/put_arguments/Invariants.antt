use Rattle.task_writer.proofs.Vocabulary.{◌≡◌, ◌++◌, map, take, Argument, passed_of, variable_names, passed_word, spaced}
use Rattle.task_writer.proofs.list.put_arguments.Given as goal

abbrev pub invariant-loop-argument : goal.invariant-loop-argument
invariant-loop-argument l = l.out.items ≡ l.initial.out.items ++ spaced (map (λ (a : Argument). passed_word (passed_of (variable_names l.variables) a)) (take l.argument-index l.arguments))
