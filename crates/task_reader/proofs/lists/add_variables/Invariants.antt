use Rattle.std.proofs.Common.{◌≡◌, ◌++◌, take}
use Rattle.task_reader.proofs.lists.add_variables.Given as goal

abbrev pub invariant-loop-variable : goal.invariant-loop-variable
invariant-loop-variable l = l.to ≡ l.initial.to ++ take l.variable-index l.variables
