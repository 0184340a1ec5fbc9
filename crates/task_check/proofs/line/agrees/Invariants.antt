use Rattle.std.proofs.Common.{◌≡◌, ℕ, ◌<◌, Some, slice_get}
use Rattle.task_syntax.specs.Valid.{sort_of}
use Rattle.task_syntax.specs.declared.instr.Argument.{Argument}
use Rattle.task_syntax.specs.declared.program.Variable.{Variable}
use Rattle.task_check.proofs.line.agrees.Given as goal

abbrev pub invariant-arguments : goal.invariant-arguments
invariant-arguments l = (j : ℕ) (a : Argument) (v : Variable) → j < l.i → slice_get l.arguments j ≡ Some a → slice_get l.variables j ≡ Some v → v.sort ≡ sort_of a
