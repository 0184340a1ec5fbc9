-- Asking for a task is a step of the run, whatever comes of it.
use Rattle.std.proofs.Common.{◌≡◌, ℕ, ◌<◌, ◌≤◌, Bool, true, false, Option, Some, None, List, length, refl, sym, subst}
use Rattle.task_syntax.specs.declared.program.Program.{Program}
use Rattle.frame_code.specs.Words.{BodyOf, body_of}
use Rattle.frame_code.specs.Frames.{IsFrame}
use Rattle.frame_code.specs.Names.{names_of}
use Rattle.frame_code.specs.Setting.{unit_in}
use Rattle.pool_core.specs.Blocks.{BlockState}
use Rattle.pool_core.specs.Pool.{HasNoRoom}
use Rattle.record_core.specs.Journal.{JournalState, next_number, with_accepted}
use Rattle.record_core.specs.declared.rows.CutTag.{CutTag}
use Rattle.record_core.specs.declared.rows.CutTag.TheVariants.{Null, Limit}
use Rattle.record_core.specs.declared.rows.Cause.TheVariants as cause
use Rattle.run_model.specs.Step.{step}
use Rattle.plain_state.specs.declared.record.Outcome.TheVariants.{WasCut}
use Rattle.plain_state.specs.Engine.{EngineState, with_pool, null_counted, null_counted_if}
use Rattle.plain_state.specs.Sees.{Runs}
use Rattle.plain_state.specs.Moves.{behind_at}
use Rattle.plain_state.specs.Laws.{MayRun, Wanted, Wants, Spawns}
use Rattle.plain_engine.specs.Asking.{IsGiven, IsRefused, IsNamed, MayCountNull, MayPlace, placed, units_in}
use Rattle.plain_engine.specs.Ending.{Moment, EndsAt, RefusedAt}
use Rattle.plain_engine.proofs.StepLaws.{spawn_is_step, spawn_at_the_limit, null_is_step, retry_is_step}
use Rattle.plain_engine.proofs.CarriedOut.{after_step}

same_journal : (o : Option ℕ) (class : ℕ) (e : EngineState) → (null_counted_if o class e).journal ≡ e.journal
same_journal None class e = refl
same_journal (Some kept) class e = refl

module _ (p : Program) (e : EngineState) (unit : ℕ) (words : List ℕ) (m : Moment) (may : MayRun p m.plan)
    (runs : Runs p m.columns m.plan e unit words m.run)
    (w : Wanted) (wants : Wants p m.columns (body_of p words) w) where
  -- a null answer can be counted
  pub may_count : MayCountNull e w.class
  may_count none = (null_is_step p m.columns m.plan e m.run unit words w may runs wants none).0

  refused_null : (retry : Bool) → w.retry ≡ retry → HasNoRoom e.store.pool w.class → RefusedAt p (null_counted w.class e) unit words Null retry
      (after_step p m)
  refused_null true same none =
      let law = retry_is_step p m.columns m.plan e m.run unit words w may runs wants none same in
      record {
        renews = λ left. law.0 (subst (λ (j : JournalState). length j.rows < j.limit) (same_journal e.evidence_class w.class e) left);
        ends = λ full. law.1 (subst (λ (j : JournalState). j.limit ≤ length j.rows) (same_journal e.evidence_class w.class e) full);
      }
  refused_null false same none = (null_is_step p m.columns m.plan e m.run unit words w may runs wants none).1 same

  -- what is refused is refused at the next moment
  pub refused_as : (tag : CutTag) (new : EngineState) → IsRefused e w.class tag new → RefusedAt p new unit words tag w.retry (after_step p m)
  refused_as Null new (none, is_new) =
      subst (λ (s : EngineState). RefusedAt p s unit words Null w.retry (after_step p m)) (sym is_new) (refused_null w.retry refl none)
  refused_as Limit new at_limit =
      subst (λ (s : EngineState). EndsAt p s unit words (WasCut Limit) cause.Limit (after_step p m)) (sym at_limit.after_is)
      (spawn_at_the_limit p m.columns m.plan e m.run unit words w at_limit.block at_limit.pool may runs wants at_limit.gives at_limit.none)

  module _ (block : BlockState) (number : ℕ) (new : EngineState) (given : IsGiven e w.class (behind_at e.store w.after).task block number new)
      (first : List ℕ) (frame : IsFrame p first) (is_first : body_of p first ≡ w.first) where
    abbrev asked_engine : EngineState
    asked_engine = record (with_pool e given.pool) { journal = with_accepted e.journal None (behind_at e.store w.after).task }

    spawns : Spawns p m.columns m.plan e unit words w block given.pool first m.run
    spawns = spawn_is_step p m.columns m.plan e m.run unit words w block given.pool first may runs wants given.gives given.left frame is_first

    place_first : MayPlace block (next_number e.journal) w.priority (behind_at e.store w.after) (names_of w.first) first
        (unit_in p words w.to) asked_engine
    place_first = record {
      make = record { within = spawns.may.within; fits = spawns.may.fits; hold = spawns.may.hold };
      gives_up = spawns.may.gives_up;
      arrives = spawns.may.arrives;
    }

    -- with a block and a number the new task may be placed
    pub may_place : MayPlace block number w.priority (behind_at e.store w.after) (units_in p first) first (unit_in p words w.to) new
    may_place =
        subst (λ (s : EngineState). MayPlace block number w.priority (behind_at e.store w.after) (units_in p first) first (unit_in p words w.to) s)
        (sym given.after_is)
        (subst (λ (n : ℕ). MayPlace block n w.priority (behind_at e.store w.after) (units_in p first) first (unit_in p words w.to) asked_engine)
        (sym given.number_is)
        (subst (λ (body : BodyOf ℕ). MayPlace block (next_number e.journal) w.priority (behind_at e.store w.after) (names_of body) first
        (unit_in p words w.to) asked_engine)
        (sym is_first) place_first))

    -- and the running task runs on
    pub runs_placed : (next : List ℕ) → IsFrame p next → IsNamed p w.to block.unit words next
        → Runs p m.columns m.plan (placed block number w.priority (behind_at e.store w.after) (units_in p first) first
        (unit_in p words w.to) new) unit next
        (step p m.columns m.plan.units m.run)
    runs_placed next frame_next is_next =
        subst (λ (s : EngineState). Runs p m.columns m.plan (placed block number w.priority (behind_at e.store w.after) (units_in p first) first
        (unit_in p words w.to) s) unit next
        (step p m.columns m.plan.units m.run)) (sym given.after_is)
        (subst (λ (n : ℕ). Runs p m.columns m.plan (placed block n w.priority (behind_at e.store w.after) (units_in p first) first
        (unit_in p words w.to) asked_engine) unit next
        (step p m.columns m.plan.units m.run)) (sym given.number_is)
        (subst (λ (body : BodyOf ℕ). Runs p m.columns m.plan
        (placed block (next_number e.journal) w.priority (behind_at e.store w.after) (names_of body) first
        (unit_in p words w.to) asked_engine) unit next
        (step p m.columns m.plan.units m.run)) (sym is_first) (spawns.goes next frame_next is_next)))
