use Rattle.std.proofs.Common.{◌≡◌, ℕ, None, Some, length, slice_get}
use Rattle.task_check.proofs.arriving.nowhere.Given as goal

abbrev pub invariant-places : goal.invariant-places
invariant-places l = record {
  long : length l.arriving.items ≡ l._at;
  none : (at : ℕ) (slot : _) → slice_get l.arriving.items at ≡ Some slot → slot ≡ None;
}
