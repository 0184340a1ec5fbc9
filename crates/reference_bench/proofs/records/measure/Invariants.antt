use Rattle.std.proofs.Common.{◌≡◌, ◌≤◌, []}
use Rattle.step_table.specs.Passes.{view, plan, IsOf}
use Rattle.reference_bench.specs.Hands.{HasEach}
use Rattle.reference_bench.proofs.records.measure.Given as goal

abbrev pub invariant-loop-round : goal.invariant-loop-round
invariant-loop-round g l = IsOf l.shared l.pass × ((view l.pass).runs ≡ []) × HasEach (plan l.shared) l.units.items (view l.pass) × (l.pass.held ≤ 1000000)
