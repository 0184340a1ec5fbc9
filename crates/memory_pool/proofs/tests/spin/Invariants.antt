use Rattle.std.proofs.Common.{◌≡◌}
use Rattle.table_core.specs.Views.{HasOnlyBlocks}
use Rattle.step_table.specs.Passes.{view, IsOf}
use Rattle.memory_pool.proofs.tests.spin.Given as goal

abbrev pub invariant-loop-round : goal.invariant-loop-round
invariant-loop-round g l = IsOf l.shared l.pass × HasOnlyBlocks (view l.pass) × (l.pass.splits ≡ l.fn.pass.splits)
