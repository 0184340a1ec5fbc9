use Rattle.record_core.specs.EndSeen.{RunPlan}
use Rattle.run_model.specs.State.{Run}
use Rattle.frame_code.specs.Words.{body_of}
use Rattle.plain_state.specs.Laws.{RunsOn, lines_left}
use Rattle.plain_engine.specs.Going.{IsRunning, RunsAt}
use Rattle.plain_engine.proofs.engine.Engine.run.Given as goal

abbrev pub invariant-acts : goal.invariant-acts
invariant-acts l = IsRunning l.checked l.columns l.self l.unit l.frame.items
    × ((plan : RunPlan) (r : Run) → RunsAt l.checked l.columns l.initial.self l.unit l.initial.frame.items plan r → RunsOn l.checked l.columns plan l.self l.unit l.frame.items r)

abbrev pub decreases-acts : goal.decreases-acts
decreases-acts l = lines_left l.checked (body_of l.checked l.frame.items)
