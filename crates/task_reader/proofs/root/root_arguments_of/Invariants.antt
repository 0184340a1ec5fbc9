use Rattle.task_reader.proofs.Vocabulary.{◌≡◌, map, take, root_argument_of}
use Rattle.task_reader.proofs.root.root_arguments_of.Given as goal

abbrev pub invariant-loop-term : goal.invariant-loop-term
invariant-loop-term l = l.places ≡ map (root_argument_of l.earlier) (take l.term-index l.arguments)
