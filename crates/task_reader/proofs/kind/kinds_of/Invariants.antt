use Rattle.task_reader.proofs.Vocabulary.{◌≡◌, ◌++◌, drop, kinds_from, EachIsShort}
use Rattle.task_reader.proofs.kind.kinds_of.Given as goal

abbrev pub invariant-items : goal.invariant-items
invariant-items l = record {
  short : EachIsShort (drop l.at l.items);
  same : l.read ++ kinds_from l.kinds (drop l.at l.items) ≡ kinds_from l.kinds l.items;
}
