use Rattle.task_reader.proofs.Vocabulary.{◌≡◌, ◌++◌, drop, variables_from}
use Rattle.task_reader.proofs.lists.variables_of.Given as goal

abbrev pub invariant-lines : goal.invariant-lines
invariant-lines l = l.variables ++ variables_from (drop l.at l.items) ≡ l.arguments ++ variables_from l.items
