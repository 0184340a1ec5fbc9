use Rattle.std.proofs.Common.{◌≡◌, []}
use Rattle.step_table.specs.Passes.{view, IsSame}
use Rattle.reference_bench.proofs.records.take_turns.Given as goal

abbrev pub invariant-loop-pick : goal.invariant-loop-pick
invariant-loop-pick l = IsSame l.fn.pass l.pass × ((view l.pass).runs ≡ []) × ((view l.pass).futures ≡ (view l.fn.pass).futures)
