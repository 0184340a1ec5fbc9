use Rattle.task_writer.proofs.Vocabulary.{◌≡◌, ◌++◌, map, take, RootArgument, root_term_of, root_names, root_term_word, spaced}
use Rattle.task_writer.proofs.list.put_root_arguments.Given as goal

abbrev pub invariant-loop-argument : goal.invariant-loop-argument
invariant-loop-argument l = l.out.items ≡ l.initial.out.items ++ spaced (map (λ (a : RootArgument). root_term_word (root_term_of (root_names l.roots) a)) (take l.argument-index l.arguments))
