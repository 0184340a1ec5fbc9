use Rattle.std.proofs.Common.{◌≡◌, ℕ, ◌<◌, Some, slice_get}
use Rattle.task_syntax.specs.Valid.{sort_of_root}
use Rattle.task_syntax.specs.declared.program.RootArgument.{RootArgument}
use Rattle.task_syntax.specs.declared.program.Variable.{Variable}
use Rattle.task_check.proofs.root.root_agrees.Given as goal

abbrev pub invariant-arguments : goal.invariant-arguments
invariant-arguments l = (j : ℕ) (a : RootArgument) (v : Variable) → j < l.i → slice_get l.arguments j ≡ Some a → slice_get l.variables j ≡ Some v → v.sort ≡ sort_of_root a
