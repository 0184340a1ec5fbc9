-- What is carried out for a running task is steps of the run.
use Rattle.std.proofs.Common.{◌≡◌, ℕ, ◌+◌, ◌<◌, ◌^◌, true, false, Some, None, List, slice_get, sym, ◌∙◌, ap, subst}
use Rattle.std.proofs.lemmas.Option.{none-some}
use Rattle.task_syntax.specs.declared.value.Value.{Value}
use Rattle.task_syntax.specs.declared.value.Value.TheVariants.{Number, Trapped}
use Rattle.task_syntax.specs.declared.value.Trap.{Trap}
use Rattle.task_syntax.specs.declared.program.Program.{Program}
use Rattle.frame_code.specs.Words.{body_of}
use Rattle.frame_code.specs.Frames.{IsFrame}
use Rattle.frame_code.specs.Moves.{passed_on, BodyIsGiven}
use Rattle.frame_code.specs.Setting.{with_future, unit_in}
use Rattle.frame_code.specs.declared.act.Act.{Act}
use Rattle.frame_code.specs.declared.act.Act.TheVariants as act
use Rattle.record_core.specs.declared.rows.Cause.TheVariants.{Clear}
use Rattle.run_model.specs.Step.{step}
use Rattle.plain_state.specs.declared.record.Record.{Record}
use Rattle.plain_state.specs.declared.record.Outcome.TheVariants.{Gave}
use Rattle.plain_state.specs.Store.{MayHold, held}
use Rattle.plain_state.specs.Engine.{EngineState, with_store}
use Rattle.plain_state.specs.Moves.{MayLetGoIf, let_go_if}
use Rattle.plain_state.specs.Sees.{Runs}
use Rattle.plain_engine.specs.Ending.{Moment, Ends, EndsAt, MayEnd}
use Rattle.plain_engine.specs.Asking.{IsNamed, without_named}
use Rattle.plain_engine.specs.Going.{AsksAt, MayCarryOut, CarriesOut, HasValue}
use Rattle.plain_engine.proofs.StepLaws.{running_frames, copy_is_step, drop_is_step, read_is_step, end_is_step}
use Rattle.plain_engine.proofs.AskedFacts.{Fits, asks_fit}

-- the moment after the next step
abbrev pub after_step : Program → Moment → Moment
after_step p m = record { columns = m.columns; plan = m.plan; run = step p m.columns m.plan.units m.run }

module _ (p : Program) (e : EngineState) (unit : ℕ) (words : List ℕ) (asked : Act) (may : MayCarryOut p e unit words asked) where
  -- the words are a frame, and what is asked for fits it
  pub frame_asks : IsFrame p words
  frame_asks = running_frames p may.moment.columns may.moment.plan e may.moment.run unit words may.at.may may.at.runs

  pub fits_asks : Fits p (body_of p words) asked
  fits_asks = asks_fit p may.moment.columns (body_of p words) asked may.at.may.formed may.at.asks

-- ends

pub may_be_done : (p : Program) (e : EngineState) (unit : ℕ) (words : List ℕ) (n : ℕ) → MayCarryOut p e unit words (act.Done n)
    → MayEnd p e unit words (Gave (Number n)) Clear
may_be_done p e unit words n may = (
  after_step p may.moment,
  (end_is_step p may.moment.columns may.moment.plan e may.moment.run unit words may.at.may may.at.runs).0 n may.at.asks,
)

pub is_done : (p : Program) (e new : EngineState) (unit : ℕ) (words next : List ℕ) (n : ℕ) → Ends p e unit words (Gave (Number n)) Clear new
    → CarriesOut p e unit words (act.Done n) false new next
is_done p e new unit words next n ends m at =
    (1, ends (after_step p m) ((end_is_step p m.columns m.plan e m.run unit words at.may at.runs).0 n at.asks))

pub may_trap : (p : Program) (e : EngineState) (unit : ℕ) (words : List ℕ) (trap : Trap) → MayCarryOut p e unit words (act.Trap trap)
    → MayEnd p e unit words (Gave (Trapped trap)) Clear
may_trap p e unit words trap may = (
  after_step p may.moment,
  (end_is_step p may.moment.columns may.moment.plan e may.moment.run unit words may.at.may may.at.runs).1 trap may.at.asks,
)

pub is_trapped : (p : Program) (e new : EngineState) (unit : ℕ) (words next : List ℕ) (trap : Trap) → Ends p e unit words (Gave
    (Trapped trap)) Clear new
    → CarriesOut p e unit words (act.Trap trap) false new next
is_trapped p e new unit words next trap ends m at =
    (1, ends (after_step p m) ((end_is_step p m.columns m.plan e m.run unit words at.may at.runs).1 trap at.asks))

-- a copy

-- what a copy of a future that names this unit may do
pub record MayCopy (p : Program) (e : EngineState) (words : List ℕ) (to other : ℕ) : Type 0 where
  pub small : other + 1 < 2 ^ 32
  pub hold : MayHold other e.store
  pub gives_up : MayLetGoIf (unit_in p words to) (held other e.store)

same_unit : (p : Program) (e : EngineState) (words : List ℕ) (to other unit : ℕ) → Some other ≡ Some unit → MayCopy p e words to other
    → MayCopy p e words to unit
same_unit p e words to other unit same may = let s : other ≡ unit = cc in subst (MayCopy p e words to) s may

module _ (p : Program) (e : EngineState) (unit : ℕ) (words : List ℕ) (to source : ℕ) where
  pub copy_names : MayCarryOut p e unit words (act.Copy to source) → unit_in p words source ≡ None → ⊥
  copy_names may none =
      let law = copy_is_step p may.moment.columns may.moment.plan e may.moment.run unit words words to source may.at.may may.at.runs may.at.asks in
      none-some law.0 (sym none ∙ law.1)

  pub may_copy : (other : ℕ) → MayCarryOut p e unit words (act.Copy to source) → unit_in p words source ≡ Some other → MayCopy p e words to other
  may_copy other may named =
      let law = copy_is_step p may.moment.columns may.moment.plan e may.moment.run unit words words to source may.at.may may.at.runs may.at.asks in
      same_unit p e words to law.0 other (sym law.1 ∙ named) (record { small = law.2; hold = law.3; gives_up = law.4 })

  pub is_copied : (new : EngineState) (next : List ℕ) (other : ℕ) → unit_in p words source ≡ Some other → IsFrame p next
      → IsNamed p to other words next
      → new ≡ without_named (unit_in p words to) (with_store e (held other e.store))
      → CarriesOut p e unit words (act.Copy to source) true new next
  is_copied new next other named frame is_next is_new m at =
      let law = copy_is_step p m.columns m.plan e m.run unit words next to source at.may at.runs at.asks in (
        1,
        subst (λ (s : EngineState). Runs p m.columns m.plan s unit next (step p m.columns m.plan.units m.run)) (sym is_new)
            (by law.0 (same law.0 (sym law.1 ∙ named)) law.5),
      )
    where
      same : (u : ℕ) → Some u ≡ Some other → other ≡ u
      same u h = cc

      after : ℕ → EngineState
      after u = with_store e (let_go_if (unit_in p words to) (held u e.store))

      by : (u : ℕ) → other ≡ u
          → (IsFrame p next → body_of p next ≡ passed_on (with_future to (Some u) (body_of p words))
          → Runs p m.columns m.plan (after u) unit next (step p m.columns m.plan.units m.run))
          → Runs p m.columns m.plan (after other) unit next (step p m.columns m.plan.units m.run)
      by u e' goes =
          subst (λ (u : ℕ). (IsFrame p next → body_of p next ≡ passed_on (with_future to (Some u) (body_of p words))
          → Runs p m.columns m.plan (after u) unit next (step p m.columns m.plan.units m.run))) (sym e') goes frame is_next

-- a drop

module _ (p : Program) (e : EngineState) (unit : ℕ) (words : List ℕ) (x : ℕ) where
  pub may_drop : MayCarryOut p e unit words (act.Drop x) → MayLetGoIf (unit_in p words x) e.store
  may_drop may = (drop_is_step p may.moment.columns may.moment.plan e may.moment.run unit words words x may.at.may may.at.runs may.at.asks).0

  pub is_dropped : (new : EngineState) (next : List ℕ) → IsFrame p next → body_of p next ≡ passed_on (with_future x None (body_of p words))
      → new ≡ without_named (unit_in p words x) e → CarriesOut p e unit words (act.Drop x) true new next
  is_dropped new next frame is_next is_new m at = (
    1,
    subst (λ (s : EngineState). Runs p m.columns m.plan s unit next (step p m.columns m.plan.units m.run)) (sym is_new)
        ((drop_is_step p m.columns m.plan e m.run unit words next x at.may at.runs at.asks).1 frame is_next),
  )

-- a read

module _ (p : Program) (e : EngineState) (unit : ℕ) (words : List ℕ) (x : ℕ) where
  pub reads : MayCarryOut p e unit words (act.NeedsValue x) → (v : Value) × HasValue p e words x v
  reads may =
      let law = read_is_step p may.moment.columns may.moment.plan e may.moment.run unit words x may.at.may may.at.runs may.at.asks in
      (law.1, record { other = law.0; known = law.4.0; names = law.2; there = law.4.1; gave = law.4.2 })

  -- the value that was read is the one of the law
  same_value : (v w : Value) → HasValue p e words x v → HasValue p e words x w → v ≡ w
  same_value v w a b =
      let u : a.other ≡ b.other = same_number a.other b.other (sym a.names ∙ b.names) in
      let k : a.known ≡ b.known = same_record a.known b.known (sym a.there ∙ (ap (slice_get e.store.records) u ∙ b.there)) in
      same_gave v w (sym a.gave ∙ (ap (λ (k : Record). k.outcome) k ∙ b.gave))
    where
      same_number : (m n : ℕ) → Some m ≡ Some n → m ≡ n
      same_number m n h = cc

      same_record : (m n : Record) → Some m ≡ Some n → m ≡ n
      same_record m n h = cc

      same_gave : (m n : Value) → Some (Gave m) ≡ Some (Gave n) → m ≡ n
      same_gave m n h = cc

  law_value : (m : Moment) (at : AsksAt p e unit words (act.NeedsValue x) m) → (v : Value) × HasValue p e words x v
      × ((n : ℕ) (next : List ℕ) → v ≡ Number n → IsFrame p next → BodyIsGiven p (body_of p words) n (body_of p next)
      → Runs p m.columns m.plan e unit next (step p m.columns m.plan.units m.run))
      × ((trap : Trap) → v ≡ Trapped trap → EndsAt p e unit words (Gave (Trapped trap)) Clear (after_step p m))
  law_value m at =
      let law = read_is_step p m.columns m.plan e m.run unit words x at.may at.runs at.asks in
      (law.1, record { other = law.0; known = law.4.0; names = law.2; there = law.4.1; gave = law.4.2 }, law.5, law.6)

  pub is_read : (new : EngineState) (next : List ℕ) (n : ℕ) → HasValue p e words x (Number n) → IsFrame p next → BodyIsGiven p (body_of p words) n
      (body_of p next)
      → new ≡ e → CarriesOut p e unit words (act.NeedsValue x) true new next
  is_read new next n has frame given is_new m at =
      let law = law_value m at in
      let s : law.0 ≡ Number n = same_value law.0 (Number n) law.1 has in (
        1,
        subst (λ (s : EngineState). Runs p m.columns m.plan s unit next (step p m.columns m.plan.units m.run)) (sym is_new)
            (law.2 n next s frame given),
      )

  pub may_read_trap : (trap : Trap) → HasValue p e words x (Trapped trap) → MayCarryOut p e unit words (act.NeedsValue x)
      → MayEnd p e unit words (Gave (Trapped trap)) Clear
  may_read_trap trap has may =
      let law = law_value may.moment may.at in (after_step p may.moment, law.3 trap (same_value law.0 (Trapped trap) law.1 has))

  pub is_read_trap : (new : EngineState) (next : List ℕ) (trap : Trap) → HasValue p e words x (Trapped trap) → Ends p e unit words (Gave
      (Trapped trap)) Clear new
      → CarriesOut p e unit words (act.NeedsValue x) false new next
  is_read_trap new next trap has ends m at =
      let law = law_value m at in (1, ends (after_step p m) (law.3 trap (same_value law.0 (Trapped trap) law.1 has)))
