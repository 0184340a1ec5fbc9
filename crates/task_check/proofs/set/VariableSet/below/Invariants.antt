use Rattle.std.proofs.Common.{◌≡◌, ℕ, nat_lt}
use Rattle.task_check.specs.Known.{in_set}
use Rattle.task_check.proofs.set.VariableSet.below.Given as goal

abbrev pub invariant-positions : goal.invariant-positions
invariant-positions l = (x : ℕ) → in_set x l.set ≡ nat_lt x l.position
