use Rattle.std.proofs.Common.{◌≡◌, ◌+◌, All}
use Rattle.step_table.specs.Passes.{IsOf}
use Rattle.shared_pool_bench.proofs.shared.passes.Given as goal

abbrev pub invariant-loop-number : goal.invariant-loop-number
invariant-loop-number l = IsOf l.shared l.last × (l.last.splits + l.number ≡ l.fn.pass.splits) × All (IsOf l.shared) l.passes.items
