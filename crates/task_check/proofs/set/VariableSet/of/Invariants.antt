use Rattle.std.proofs.Common.{◌≡◌, ℕ, take}
use Rattle.task_syntax.specs.Facts.{has}
use Rattle.task_check.specs.Known.{in_set}
use Rattle.task_check.proofs.set.VariableSet.of.Given as goal

abbrev pub invariant-members : goal.invariant-members
invariant-members l = (x : ℕ) → in_set x l.set ≡ has x (take l.i l.list)
