use Rattle.std.proofs.Common.{◌≡◌, ℕ, ◌<◌, ◌≤◌, get_or, length}
use Rattle.std.specs.Prelude.{bit_or}
use Rattle.task_check.proofs.set.VariableSet.union.Given as goal

abbrev pub invariant-words : goal.invariant-words
invariant-words l = record {
  long : length l.words ≡ 4;
  done : (k : ℕ) → k < l.k → get_or l.words k 0 ≡ bit_or (get_or l.fn.self.words k 0) (get_or l.other.words k 0);
  left : (k : ℕ) → l.k ≤ k → get_or l.words k 0 ≡ get_or l.fn.self.words k 0;
}
