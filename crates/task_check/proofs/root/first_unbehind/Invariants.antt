use Rattle.std.proofs.Common.{◌≡◌, ℕ, ◌<◌, Some, slice_get}
use Rattle.task_check.proofs.root.first_unbehind.Given as goal

abbrev pub invariant-roots : goal.invariant-roots
invariant-roots l = (j x : ℕ) → j < l.i → slice_get l.roots j ≡ Some x → l.behind ≡ Some x
