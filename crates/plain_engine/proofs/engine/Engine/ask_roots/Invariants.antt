use Rattle.std.proofs.Common.{◌≡◌, length}
use Rattle.record_core.specs.EndSeen.{RunPlan}
use Rattle.plain_state.specs.Laws.{Asked, MayRun}
use Rattle.plain_engine.proofs.engine.Engine.ask_roots.Given as goal

abbrev pub invariant-roots : goal.invariant-roots
invariant-roots l = record {
  all : l.root-items ≡ l.checked.roots;
  so_many : length l.self.roots ≡ l.root-index;
  now : (plan : RunPlan) × MayRun l.checked plan × Asked l.checked plan l.self l.root-index;
  then : (plan : RunPlan) → MayRun l.checked plan → Asked l.checked plan l.initial.self 0 → Asked l.checked plan l.self l.root-index;
}
