use Rattle.task_reader.proofs.Vocabulary.{◌≡◌, ◌≤◌, ◌+◌, ◌++◌, [], length, drop, roots_from, root_names}
use Rattle.task_reader.proofs.root.roots_of.Given as goal

abbrev pub invariant-items : goal.invariant-items
invariant-items l = record {
  room : length l.earlier + length (root_names (drop l.at l.items)) ≤ 16;
  same : l.roots ++ roots_from l.kinds l.earlier (drop l.at l.items) ≡ roots_from l.kinds [] l.items;
}
