-- A running task goes on to where it stops, and what it asks for is carried out.
use Rattle.std.proofs.Common.{◌≡◌, ℕ, zero, suc, ◌+◌, ◌<◌, Bool, true, false, List, slice_get, refl, sym, ◌∙◌, subst, arith}
use Rattle.task_syntax.specs.declared.program.Program.{Program}
use Rattle.task_syntax.specs.declared.columns.Columns.{Columns}
use Rattle.frame_code.specs.Words.{BodyOf, OfKind, OfMembers, body_of}
use Rattle.frame_code.specs.Frames.{IsFrame}
use Rattle.frame_code.specs.Stops.{BodyAdvances}
use Rattle.frame_code.specs.Members.{member_act}
use Rattle.frame_code.specs.Meant.{AreHeld}
use Rattle.frame_code.specs.Calls.{Allows}
use Rattle.frame_code.specs.declared.act.Act.{Act}
use Rattle.record_core.specs.EndSeen.{RunPlan}
use Rattle.run_model.specs.State.{Run}
use Rattle.run_model.specs.Step.{step, steps}
use Rattle.plain_state.specs.Engine.{EngineState}
use Rattle.plain_state.specs.Sees.{Runs, Rests}
use Rattle.plain_state.specs.Laws.{AsksFor, RunsOn, RestsThen, lines_left}
use Rattle.plain_engine.specs.Ending.{Moment}
use Rattle.plain_engine.specs.Going.{AsksAt, CarriesOut, FollowsAt, IsRunning, MayCarryOut, RunsAt, TakesLine}
use Rattle.plain_engine.proofs.StepLaws.{advance_is_steps, lines_go, running_frames}

-- some steps, and more after them
pub steps_more : (p : Program) (c : Columns) (units taken more : ℕ) (r : Run) → steps p c units (taken + more) r ≡ steps p c units more (steps p c units taken r)
steps_more p c units zero more r = let e : zero + more ≡ more = omega arith in rw e refl
steps_more p c units (suc taken) more r = let e : suc taken + more ≡ suc (taken + more) = omega arith in rw e (steps_more p c units taken more (step p c units r))

-- a body that went on to where it stops asks for that there
asks_for : (p : Program) (c : Columns) (one other : BodyOf ℕ) (asked : Act) → BodyAdvances p c one asked other → AsksFor p c other asked
asks_for p c (OfKind q) (OfKind last) asked (goes, stops) = stops
asks_for p c (OfMembers members next) (OfMembers same at) asked (is, stays, act) =
    subst (λ ms. member_act (slice_get ms at) at ≡ asked) (sym is) (subst (λ n. member_act (slice_get members n) n ≡ asked) (sym stays) act)
asks_for p c (OfKind q) (OfMembers members next) asked advances = absurd advances
asks_for p c (OfMembers members next) (OfKind q) asked advances = absurd advances

-- whatever state of the run the engine came from, the task runs on
abbrev pub ComesToRun : Program → Columns → EngineState → ℕ → List ℕ → EngineState → List ℕ → Type 0
ComesToRun p c first unit words now next = (plan : RunPlan) (r : Run) → RunsAt p c first unit words plan r → RunsOn p c plan now unit next r

module _ (p : Program) (c : Columns) (old : EngineState) (unit : ℕ) (words next : List ℕ) (asked : Act)
    (frame : IsFrame p next) (advances : BodyAdvances p c (body_of p words) asked (body_of p next)) where
  -- at each moment at which it runs it comes to ask for this
  comes_to_ask : (plan : RunPlan) (r : Run) → RunsAt p c old unit words plan r
      → (taken : ℕ) × AsksAt p old unit next asked (record { columns = c; plan = plan; run = steps p c plan.units taken r })
  comes_to_ask plan r at =
      let (taken, then) = advance_is_steps p c plan old r unit words next asked at.may at.runs frame advances in
      (taken, record { may = at.may; runs = then; asks = asks_for p c (body_of p words) (body_of p next) asked advances })

  -- what it asks for may be carried out
  pub may_carry_out : IsRunning p c old unit words → AreHeld p asked (body_of p next) → Allows p asked next → MayCarryOut p old unit next asked
  may_carry_out (plan, r, at) held allows =
      let (taken, asks) = comes_to_ask plan r at in
      record { moment = record { columns = c; plan = plan; run = steps p c plan.units taken r }; at = asks; held = held; next = allows }

  module _ (goes : Bool) (new : EngineState) (last : List ℕ) (carries : CarriesOut p old unit next asked goes new last) where
    module _ (on : goes ≡ true) where
      -- where it goes on, it runs
      then_runs : (plan : RunPlan) (r : Run) → RunsAt p c old unit words plan r → RunsOn p c plan new unit last r
      then_runs plan r at =
          let (taken, asks) = comes_to_ask plan r at in
          let follows = carries (record { columns = c; plan = plan; run = steps p c plan.units taken r }) asks in
          let (more, then) = subst (λ g. FollowsAt p unit g new last (record { columns = c; plan = plan; run = steps p c plan.units taken r })) on follows in
          (taken + more, subst (λ s. Runs p c plan new unit last s) (sym (steps_more p c plan.units taken more r)) then)

      pub still_running : IsRunning p c old unit words → IsRunning p c new unit last
      still_running (plan, r, at) = let (taken, then) = then_runs plan r at in (plan, steps p c plan.units taken r, record { may = at.may; runs = then })

      pub comes_to_run : (first : EngineState) (begun : List ℕ) → ComesToRun p c first unit begun old words → ComesToRun p c first unit begun new last
      comes_to_run first begun came plan r at =
          let (taken, now) = came plan r at in
          let (more, then) = then_runs plan (steps p c plan.units taken r) (record { may = at.may; runs = now }) in
          (taken + more, subst (λ s. Runs p c plan new unit last s) (sym (steps_more p c plan.units taken more r)) then)

      pub lines_fall : IsRunning p c old unit words → TakesLine p goes next last → lines_left p (body_of p last) < lines_left p (body_of p words)
      lines_fall (plan, r, at) takes =
          omega (arith, subst (λ g. TakesLine p g next last) on takes, lines_go.advance p c (body_of p words) (body_of p next) asked at.may.formed advances)

    -- where it does not, its activation has ended
    pub comes_to_end : goes ≡ false → (first : EngineState) (begun : List ℕ) → ComesToRun p c first unit begun old words
        → (plan : RunPlan) (r : Run) → RunsAt p c first unit begun plan r → RestsThen p c plan new r
    comes_to_end off first begun came plan r at =
        let (taken, now) = came plan r at in
        let s = steps p c plan.units taken r in
        let (further, asks) = comes_to_ask plan s (record { may = at.may; runs = now }) in
        let m : Moment = record { columns = c; plan = plan; run = steps p c plan.units further s } in
        let (more, then) = subst (λ g. FollowsAt p unit g new last m) off (carries m asks) in (
          taken + (further + more),
          subst (λ t. Rests p c plan new t)
              (sym (steps_more p c plan.units taken (further + more) r ∙ steps_more p c plan.units further more s)) then,
        )

-- the words of a running task's frame are a frame
pub runs_frame : (p : Program) (c : Columns) (e : EngineState) (unit : ℕ) (words : List ℕ) → IsRunning p c e unit words → IsFrame p words
runs_frame p c e unit words (plan, r, at) = running_frames p c plan e r unit words at.may at.runs
