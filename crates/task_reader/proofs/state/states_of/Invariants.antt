use Rattle.task_reader.proofs.Vocabulary.{◌≡◌, ◌++◌, drop, states_from, EachIsShort}
use Rattle.task_reader.proofs.state.states_of.Given as goal

abbrev pub invariant-items : goal.invariant-items
invariant-items l = record {
  short : EachIsShort (drop l.at l.items);
  same : l.states ++ states_from l.p (drop l.at l.items) ≡ states_from l.p l.items;
}
