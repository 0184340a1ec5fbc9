-- Turns, one after the other.
use Rattle.std.proofs.Common.{◌≡◌, suc, ◌<◌, Bool, true, false, sym, subst}
use Rattle.task_syntax.specs.declared.program.Program.{Program}
use Rattle.task_syntax.specs.declared.columns.Columns.{Columns}
use Rattle.record_core.specs.EndSeen.{RunPlan}
use Rattle.run_model.specs.State.{Run}
use Rattle.run_model.specs.Step.{steps}
use Rattle.plain_state.specs.Engine.{EngineState}
use Rattle.plain_state.specs.Sees.{Rests}
use Rattle.plain_state.specs.Laws.{starts_left}
use Rattle.plain_engine.specs.Going.{ComesToEnd, IdlesAt, IsIdle, IsOver, TakesStart, Turns}

-- at some state of the run nothing runs, whatever state the run came from
abbrev pub ComesToRest : Program → Columns → EngineState → EngineState → Type 0
ComesToRest p c first now = (plan : RunPlan) (r : Run) → IdlesAt p c first plan r → (at : Run) × Rests p c plan now at

module _ (p : Program) (c : Columns) (old new : EngineState) (turned : Bool) (turns : Turns p c old turned new) where
  module _ (goes : turned ≡ true) where
    turns_so : Turns p c old true new
    turns_so = subst (λ t. Turns p c old t new) goes turns

    pub idles_on : IsIdle p c old → IsIdle p c new
    idles_on (plan, r, idle) = let (taken, rests) = turns_so plan r idle in (plan, steps p c plan.units (suc taken) r, record { may = idle.may; rests = rests })

    pub rests_on : (first : EngineState) → ComesToRest p c first old → ComesToRest p c first new
    rests_on first came plan r idle =
        let (at, rests) = came plan r idle in
        let (taken, then) = turns_so plan at (record { may = idle.may; rests = rests }) in
        (steps p c plan.units (suc taken) at, then)

    pub starts_fall : TakesStart turned old new → starts_left new < starts_left old
    starts_fall fewer = subst (λ t. TakesStart t old new) goes fewer

  -- where none may start any more, the run is at its end
  pub at_end : turned ≡ false → (first : EngineState) → ComesToRest p c first old → ComesToEnd p c first new
  at_end stays first came plan r idle =
      let (at, rests) = came plan r idle in
      let (over, same) = subst (λ t. Turns p c old t new) stays turns plan at (record { may = idle.may; rests = rests }) in
      record { run = at; rests = subst (λ e. Rests p c plan e at) (sym same) rests; over = subst IsOver (sym same) over }
