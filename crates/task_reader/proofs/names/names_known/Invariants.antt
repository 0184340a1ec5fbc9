use Rattle.task_reader.proofs.Vocabulary.{◌≡◌, ◌≤◌, drop, first_scope, names_known, EachIsShort}
use Rattle.task_reader.proofs.names.names_known.Given as goal

abbrev pub invariant-items : goal.invariant-items
invariant-items l = record {
  short : EachIsShort (drop l.at l.items);
  steps : l.scope.steps ≤ l.at;
  same : names_known l.items l.scope (drop l.at l.items) ≡ names_known l.items first_scope l.items;
}
