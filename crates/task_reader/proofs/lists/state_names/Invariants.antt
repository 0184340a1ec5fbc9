use Rattle.task_reader.proofs.Vocabulary.{◌≡◌, ◌++◌, drop, state_names}
use Rattle.task_reader.proofs.lists.state_names.Given as goal

abbrev pub invariant-items : goal.invariant-items
invariant-items l = l.names ++ state_names (drop l.at l.items) ≡ state_names l.items
