use Rattle.task_reader.proofs.Vocabulary.{◌≡◌, map, take, argument_of}
use Rattle.task_reader.proofs.instr.arguments_of.Given as goal

abbrev pub invariant-loop-passed : goal.invariant-loop-passed
invariant-loop-passed l = l.places ≡ map (argument_of l.p) (take l.passed-index l.arguments)
