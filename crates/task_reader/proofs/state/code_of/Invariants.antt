use Rattle.task_reader.proofs.Vocabulary.{◌≡◌, ◌≤◌, ◌+◌, ◌++◌, drop, code_from, steps_ahead}
use Rattle.task_reader.proofs.state.code_of.Given as goal

abbrev pub invariant-lines : goal.invariant-lines
invariant-lines l = record {
  room : l.at + steps_ahead (drop l.at l.items) ≤ 64;
  same : l.code ++ code_from l.p l.at (drop l.at l.items) ≡ code_from l.p 0 l.items;
}
