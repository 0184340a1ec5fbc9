use Rattle.record_core.specs.EndSeen.{RunPlan}
use Rattle.run_model.specs.State.{Run}
use Rattle.plain_state.specs.Sees.{Rests}
use Rattle.plain_state.specs.Laws.{starts_left}
use Rattle.plain_engine.specs.Going.{IdlesAt, IsIdle}
use Rattle.plain_engine.proofs.engine.Engine.turns.Given as goal

abbrev pub invariant-turns : goal.invariant-turns
invariant-turns l = IsIdle l.checked l.columns l.self
    × ((plan : RunPlan) (r : Run) → IdlesAt l.checked l.columns l.initial.self plan r → (now : Run) × Rests l.checked l.columns plan l.self now)

abbrev pub decreases-turns : goal.decreases-turns
decreases-turns l = starts_left l.self
