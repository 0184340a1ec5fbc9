use Rattle.task_reader.proofs.Vocabulary.{◌≡◌, ◌++◌, drop, kind_names}
use Rattle.task_reader.proofs.lists.kind_names.Given as goal

abbrev pub invariant-items : goal.invariant-items
invariant-items l = l.names ++ kind_names (drop l.at l.items) ≡ kind_names l.items
