-- All that is shown of making a wanted task, in one place.
use Rattle.std.proofs.Common.{◌≡◌, ℕ, ◌<◌, ◌^◌, Option, Some, List, [], ◌∷◌, ◌++◌, length, ap, arith}
use Rattle.std.specs.Prelude.{IfSome}
use Rattle.task_syntax.specs.declared.program.Program.{Program}
use Rattle.pool_core.specs.Blocks.{BlockState}
use Rattle.pool_core.specs.Pool.{PoolState, Gives}
use Rattle.frame_code.specs.Words.{BodyOf}
use Rattle.frame_code.specs.Names.{names_of}
use Rattle.record_core.specs.Numbers.{HasTask}
use Rattle.record_core.specs.Journal.{JournalState, next_number}
use Rattle.record_core.specs.EndSeen.{RunPlan}
use Rattle.run_model.specs.State.{Body, RootWord, Run}
use Rattle.run_model.specs.Step.{Request, arrives, accepts}
use Rattle.run_model.proofs.NumbersInvariant.{NumbersHeld}
use Rattle.plain_state.specs.Store.{MayHoldAll, HasUnit, FitsAt}
use Rattle.plain_state.specs.Engine.{EngineState, with_store}
use Rattle.plain_state.specs.Moves.{behind_at, arrived, let_go_if, made_task, MayArrive, MayLetGoIf, MaySpawn}
use Rattle.plain_state.specs.Sees.{Sees, unit_of}
use Rattle.plain_state.specs.Laws.{MayRun}
use Rattle.plain_state.proofs.NewTask.{IsWanted, new_sees, new_held, may_after, may_hold, may_store, may_make}
use Rattle.plain_state.proofs.NewArrives.{new_unit, accepted_with, new_arrives}
use Rattle.plain_state.proofs.KnownRuns.{Known, units_count, few_bodies, few_roots, few_rows}

pub record Makes (p : Program) (units : ℕ) (own : Option (ℕ × List ℕ)) (e : EngineState) (r : Run) (q : Request) (block : BlockState)
    (pool : PoolState) (first : List ℕ) (wanted : BodyOf ℕ) (after : Option ℕ) : Type 0 where
  -- it is made, and is in hand; its number is drawn, and its block begins there
  pub task : ((ws : List ℕ) → own ≡ Some (next_number r.journal, ws) → ⊥)
      → Sees p units (next_number r.journal ∷ []) own
      (made_task block pool q.priority (behind_at e.store after) (names_of wanted) first e) (accepts units r q block)
  pub drawn : NumbersHeld (accepts units r q block) (next_number r.journal ∷ [])
  pub unit : unit_of (r.blocks ++ Some block ∷ []) (next_number r.journal) ≡ Some block.unit
  -- the calls for it may be made
  pub after_is : IfSome (behind_at e.store after).task (HasTask e.journal.rows)
  pub hold : MayHoldAll (names_of wanted) (record e.store { pool = pool })
  pub fits : FitsAt e.store block.unit (length first)
  pub within : HasUnit e.store block.unit
  pub few : next_number e.journal < 2 ^ 32
  -- it arrives, whatever else was changed of bodies and roots meanwhile
  pub arrives : (bodies : List (Option Body)) (roots : List RootWord) (hand' : List ℕ) (own' : Option (ℕ × List ℕ)) (e' : EngineState)
      → Sees p units hand' own' e' (accepted_with units r q block bodies roots)
      → NumbersHeld (accepted_with units r q block bodies roots) (next_number r.journal ∷ [])
      → MayArrive block.unit (behind_at e.store after).waits e'.store
      × Sees p units hand' own' (with_store e' (arrived block.unit (behind_at e.store after).waits e'.store))
      (arrives (accepted_with units r q block bodies roots) (next_number r.journal) q.after)

module _ (p : Program) (plan : RunPlan) (may : MayRun p plan) (own : Option (ℕ × List ℕ)) (e : EngineState) (r : Run) (known : Known p plan r)
    (sees : Sees p plan.units [] own e r) (q : Request) (block : BlockState) (pool : PoolState) (first : List ℕ) (wanted : BodyOf ℕ)
    (after : Option ℕ) (class : ℕ) (is : IsWanted p r q first wanted after class) (gives : Gives e.store.pool class block pool) where
  -- a wanted task is made so, where the pool gives it a block
  pub makes : Makes p plan.units own e r q block pool first wanted after
  makes =
      let count = units_count p plan may in
      let stands = known.run.numbers in
      record {
        task = new_sees p plan.units count own e r q block pool first wanted after class sees stands is gives;
        drawn = new_held p plan.units count own e r q block pool first wanted after class sees stands is gives;
        unit = new_unit p plan.units count own e r q block pool first wanted after class sees stands is gives;
        after_is = may_after p plan.units count own e r q block pool first wanted after class sees stands is gives;
        hold = may_hold p plan.units count own e r q block pool first wanted after class sees stands is gives
            (few_bodies p plan may r known) (few_roots p plan may r known);
        fits = may_store p plan.units count own e r q block pool first wanted after class sees stands is gives;
        within = may_make p plan.units count own e r q block pool first wanted after class sees stands is gives;
        few = let rows = few_rows p plan may r known in omega (arith, rows, ap (λ (j : JournalState). length j.rows) sees.journal);
        arrives = λ bodies roots hand' own' e' sees' held.
            new_arrives p plan.units count own e r q block pool first wanted after class sees stands is gives bodies roots hand' own' e' sees' held;
      }

  -- so it may be spawned, where what its variable named may be let go, and it may arrive then
  pub may_spawn : (old : Option ℕ) → MayLetGoIf old (made_task block pool q.priority (behind_at e.store after) (names_of wanted) first e).store
      → MayArrive block.unit (behind_at e.store after).waits
      (let_go_if old (made_task block pool q.priority (behind_at e.store after) (names_of wanted) first e).store)
      → MaySpawn block pool q.priority (behind_at e.store after) (names_of wanted) first old e
  may_spawn old gives_up may_arrive = record {
    after = makes.after_is;
    hold = makes.hold;
    fits = makes.fits;
    within = makes.within;
    few = makes.few;
    gives_up = gives_up;
    arrives = may_arrive;
  }
