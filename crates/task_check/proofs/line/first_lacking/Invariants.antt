use Rattle.std.proofs.Common.{◌≡◌, ℕ, ◌<◌, true, Some, slice_get}
use Rattle.task_check.specs.Known.{in_set}
use Rattle.task_check.proofs.line.first_lacking.Given as goal

abbrev pub invariant-futures : goal.invariant-futures
invariant-futures l = (j x : ℕ) → j < l.i → slice_get l.futures j ≡ Some x → in_set x l.set ≡ true
