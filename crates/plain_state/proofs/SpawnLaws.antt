-- The laws on asking for a task: with a block and a number, with a block alone, and without a block.
use Rattle.std.proofs.Common.{◌≡◌, ℕ, ◌+◌, ◌<◌, ◌≤◌, ◌^◌, true, false, cond, Option, Some, None, List, [], ◌∷◌, ◌++◌, length, refl, sym, ◌∙◌, ap}
use Rattle.std.proofs.Common.{subst, ⊎_elim, arith}
use Rattle.task_syntax.specs.declared.program.Program.{Program}
use Rattle.task_syntax.specs.declared.columns.Columns.{Columns}
use Rattle.task_meaning.specs.Meant.{future_at}
use Rattle.task_meaning.specs.Frame.{FrameOf, renamed, set_future, frame_with}
use Rattle.task_meaning.proofs.Renaming.{set_future-renamed, future_at-renamed}
use Rattle.pool_core.specs.Blocks.{BlockState}
use Rattle.pool_core.specs.Pool.{PoolState, Gives, HasNoRoom}
use Rattle.frame_code.specs.Words.{OfKind, body_of}
use Rattle.frame_code.specs.Frames.{IsFrame}
use Rattle.frame_code.specs.Names.{names_of}
use Rattle.frame_code.specs.Moves.{passed_on}
use Rattle.frame_code.specs.Setting.{with_future, unit_of as unit_in}
use Rattle.record_core.specs.Numbers.{put_number, found, HasTask}
use Rattle.record_core.specs.declared.rows.ActivationRow.{ActivationRow}
use Rattle.record_core.specs.Journal.{next_number}
use Rattle.record_core.specs.EndSeen.{RunPlan}
use Rattle.record_core.specs.declared.rows.Cause.TheVariants as cause
use Rattle.record_core.specs.declared.rows.CutTag.TheVariants.{Null, Limit}
use Rattle.run_model.specs.State.{Body, WasCut, Run}
use Rattle.run_model.specs.Placing.{pool_of, placed}
use Rattle.run_model.specs.Step.{Request, arrives, accepts, places, counts_null, with_body, is_refused, asks, asks_with, step}
use Rattle.run_model.specs.Move.{RunsAt, notes_of}
use Rattle.run_model.proofs.ByNumber.{snoc_new, snoc_old, found_old, found_put, found_within}
use Rattle.run_model.proofs.NumbersInvariant.{NumbersHeld}
use Rattle.run_model.proofs.NumbersParts.{held_body}
use Rattle.run_model.proofs.NamesFacts.{asks_named, set_named}
use Rattle.run_model.proofs.FramesInvariant.{IsSeated}
use Rattle.run_model.proofs.FramesKept.{noted, runs_noted}
use Rattle.run_model.proofs.SeatFacts.{seat_formed}
use Rattle.run_model.proofs.UsedFacts.{in_use}
use Rattle.run_model.proofs.UsesFacts.{uses_named}
use Rattle.run_model.proofs.LiveFacts.{task_snoc}
use Rattle.plain_state.specs.declared.record.Outcome.TheVariants as seen
use Rattle.plain_state.specs.Store.{without_block}
use Rattle.plain_state.specs.Engine.{EngineState, with_store, with_pool, null_counted}
use Rattle.plain_state.specs.Moves.{behind_at, arrived, let_go_if, made_task, spawned, MayArrive, MayLetGoIf, MaySpawn}
use Rattle.plain_state.specs.Sees.{Sees, SeesBody, Runs, unit_of}
use Rattle.plain_state.specs.Laws.{MayRun, Wanted, Wants, Spawns, SpawnIsStep, SpawnAtTheLimit, NullIsStep, Finishes}
use Rattle.plain_state.proofs.Running.{body_length, frame_size, reached_next, own_says}
use Rattle.plain_state.proofs.OwnLaws.{frame_runs, frame_seat}
use Rattle.plain_state.proofs.SetFuture.{may_let_go_old, sees_set}
use Rattle.plain_state.proofs.TaskEnds.{finishes_as}
use Rattle.plain_state.proofs.PoolParts.{gives_placed, no_room_placed}
use Rattle.plain_state.proofs.WantedSeen.{Wishes, AsksSo, wants_seen}
use Rattle.plain_state.proofs.NewTask.{IsWanted}
use Rattle.plain_state.proofs.NewArrives.{number_left, no_number_left, arrives_runs, arrives_blocks, may_arrive_still}
use Rattle.plain_state.proofs.GrownLists.{unit_grows}
use Rattle.plain_state.proofs.NotesSeen.{sees_null, sees_placed}
use Rattle.plain_state.proofs.Makes.{Makes, makes, may_spawn}
use Rattle.plain_state.proofs.KnownRuns.{Known, known_reached, units_count, nulls_fit}

-- whose frame is with the engine
abbrev own_of : ℕ → List ℕ → Option (ℕ × List ℕ)
own_of t words = Some (t, words)

abbrev task_of : Option (ℕ × List ℕ) → ℕ
task_of None = 0
task_of (Some own) = own.0

module _ (p : Program) (c : Columns) (plan : RunPlan) (e : EngineState) (r : Run) (unit : ℕ) (words : List ℕ) (w : Wanted) (may : MayRun p plan)
    (runs : Runs p c plan e unit words r) (wants : Wants p c (body_of p words) w) where
  -- what is known of the run
  known : Known p plan r
  known = known_reached p plan may c r runs.reached

  -- it asks for this in the run
  asks_so : AsksSo p c (unit_of r.blocks) runs.body w
  asks_so = wants_seen p c (unit_of r.blocks) runs.body w (subst
      (λ b. Wants p c b w) (own_says p plan.units [] runs.t words e r runs.body runs.sees runs.runs.has).says wants)

  abbrev q : FrameOf ℕ
  q = asks_so.q

  abbrev wishes : Wishes p c (unit_of r.blocks) asks_so.q w
  wishes = asks_so.wishes

  abbrev request : Request
  request = asks_so.wishes.request

  -- the frame that runs
  here : RunsAt r runs.t runs.n (OfKind asks_so.q)
  here = frame_runs p c plan e r unit words may runs asks_so.q asks_so.is

  -- what the step is
  step_is : step p c plan.units r ≡ asks plan.units r runs.t (OfKind asks_so.q) (λ m. OfKind (set_future asks_so.q w.to (Some m))) request w.retry
  step_is = asks_so.wishes.steps plan.units r runs.t runs.n here

  -- the class of the request is one
  fits : request.class ≤ 3
  fits = subst (λ k. k ≤ 3) (sym asks_so.wishes.class) asks_so.wishes.fits

  -- the block that the pool gives is placed
  placed_is : (block : BlockState) (pool : PoolState) → Gives e.store.pool w.class block pool
      → placed (pool_of plan.units r) request.class ≡ Some block
  placed_is block pool gives =
      ap (λ x. placed x request.class) (sym runs.sees.pool) ∙ ap (placed e.store.pool) asks_so.wishes.class
      ∙ gives_placed e.store.pool w.class asks_so.wishes.fits runs.sees.sound block pool gives

  -- without room none is placed
  none_placed : HasNoRoom e.store.pool w.class → placed (pool_of plan.units r) request.class ≡ None
  none_placed full = ap (λ x. placed x request.class) (sym runs.sees.pool) ∙ ap (placed e.store.pool) asks_so.wishes.class
      ∙ no_room_placed e.store.pool w.class asks_so.wishes.fits runs.sees.sound full

  -- with a block and no number
  pub at_the_limit : (block : BlockState) (pool : PoolState) → Gives e.store.pool w.class block pool → e.journal.limit ≤ length e.journal.rows
      → Finishes p c plan (with_pool e (without_block pool block)) unit words (seen.WasCut Limit) cause.Limit (step p c plan.units r)
  at_the_limit block pool gives full =
      finishes_as p c plan (with_pool e (without_block pool block)) (places plan.units r block) unit words runs.t runs.n runs.body
      (noted r (notes_of (places plan.units r block)) known.run.numbers) (runs_noted r (notes_of
      (places plan.units r block)) runs.t runs.n runs.body runs.runs) runs.at
      (sees_placed p plan.units (Some (runs.t, words)) e r runs.sees (units_count p plan may) w.class asks_so.wishes.fits block pool gives)
      (WasCut Limit) cause.Limit (step p c plan.units r) tt (reached_next p c plan r runs.reached)
      (step_is ∙ ap (λ o. asks_with o plan.units r runs.t (OfKind asks_so.q)
      (λ m. OfKind (set_future asks_so.q w.to (Some m))) request w.retry) (placed_is block pool gives)
      ∙ ap (λ b. cond b (arrives (with_body (accepts plan.units r request block) runs.t (OfKind (set_future asks_so.q w.to (Some
      (next_number r.journal))))) (next_number r.journal) request.after)
      (is_refused (places plan.units r block) runs.t Limit)) (no_number_left r e.journal runs.sees.journal full))

  -- without a block
  pub null_may : e.nulls + 1 < 2 ^ 64
  null_may = let few = nulls_fit p plan may r known in omega (arith, few, runs.sees.nulls)

  -- the task is cut
  pub null_ends : HasNoRoom e.store.pool w.class → w.retry ≡ false
      → Finishes p c plan (null_counted w.class e) unit words (seen.WasCut Null) cause.Null (step p c plan.units r)
  null_ends full no_retry =
      finishes_as p c plan (null_counted w.class e) (counts_null plan.units r w.class) unit words runs.t runs.n runs.body
      (noted r (notes_of (counts_null plan.units r w.class)) known.run.numbers) (runs_noted r (notes_of
      (counts_null plan.units r w.class)) runs.t runs.n runs.body runs.runs) runs.at
      (sees_null p plan.units (Some (runs.t, words)) e r runs.sees w.class)
      (WasCut Null) cause.Null (step p c plan.units r) tt (reached_next p c plan r runs.reached)
      (step_is ∙ ap (λ o. asks_with o plan.units r runs.t (OfKind asks_so.q)
      (λ m. OfKind (set_future asks_so.q w.to (Some m))) request w.retry) (none_placed full)
      ∙ ap (asks_with None plan.units r runs.t (OfKind asks_so.q) (λ m. OfKind (set_future asks_so.q w.to (Some m))) request) no_retry
      ∙ ap (λ k. is_refused (counts_null plan.units r k) runs.t Null) asks_so.wishes.class)

  -- with a block and a number
  module _ (block : BlockState) (pool : PoolState) (first : List ℕ) (gives : Gives e.store.pool w.class block pool)
      (lt : length e.journal.rows < e.journal.limit) (frame : IsFrame p first) (says : body_of p first ≡ w.first) where
    -- what it wants is what it asks for in the run
    is : IsWanted p r request first w.first w.after w.class
    is = record {
      class_is = asks_so.wishes.class;
      class_fits = asks_so.wishes.fits;
      frame = frame;
      says = says;
      units = asks_so.wishes.first;
      holds = asks_so.wishes.holds first frame says;
      after_is = asks_so.wishes.after;
      used = λ u names. (in_use r.roots r.bodies u).1 (uses_named r.roots r.bodies runs.t u (OfKind asks_so.q) here.has
          (asks_named p c asks_so.q request w.to u w.retry asks_so.wishes.asked names));
      tasks = λ u names. known.run.numbers.names.in_bodies runs.t u (OfKind asks_so.q) here.has
          (asks_named p c asks_so.q request w.to u w.retry asks_so.wishes.asked names);
    }

    abbrev task : EngineState
    task = made_task block pool request.priority (behind_at e.store w.after) (names_of w.first) first e

    abbrev accepted : Run
    accepted = accepts plan.units r request block

    -- the running task is not the new one
    running_old : (ws : List ℕ) → own_of runs.t words ≡ own_of (next_number r.journal) ws → ⊥
    running_old ws same =
        let is_new : runs.t ≡ next_number r.journal = ap task_of same in
        absurd (omega (arith, is_new, (found_within r.bodies runs.t (OfKind asks_so.q) here.has).1, known.run.numbers.beside.of_bodies))

    makes_it : Makes p plan.units (Some (runs.t, words)) e r request block pool first w.first w.after
    makes_it = makes p plan may (Some (runs.t, words)) e r known runs.sees request block pool first w.first w.after w.class is gives

    -- the task is made
    made : Sees p plan.units (next_number r.journal ∷ []) (Some (runs.t, words)) task accepted
    made = makes_it.task running_old

    -- the running task stands where it stood
    has_then : found (r.bodies ++ Some request.body ∷ []) runs.t ≡ Some (OfKind asks_so.q)
    has_then = found_old r.bodies (Some request.body) runs.t (OfKind asks_so.q) here.has

    -- its words say so
    says_then : SeesBody p (r.blocks ++ Some block ∷ []) words (OfKind asks_so.q)
    says_then = own_says p plan.units (next_number r.journal ∷ []) runs.t words task accepted (OfKind asks_so.q) made has_then

    -- the unit that the variable named
    old_unit : unit_in (body_of p words) w.to ≡ renamed (unit_of (r.blocks ++ Some block ∷ [])) (future_at asks_so.q.futures w.to)
    old_unit = ap (λ b. unit_in b w.to) says_then.says ∙ future_at-renamed (unit_of
        (r.blocks ++ Some block ∷ [])) asks_so.q.futures w.to

    -- the running frame is seated
    seat : IsSeated p r (frame_runs p c plan e r unit words may runs asks_so.q asks_so.is).row.after true asks_so.q
    seat = frame_seat p c plan e r unit words may runs asks_so.q asks_so.is

    -- the variable is one of the frame
    within : w.to < length asks_so.q.futures
    within =
        let formed = seat_formed p may.formed may.valid c r (frame_runs p c plan e r unit words may runs asks_so.q asks_so.is).row.after true
        asks_so.q seat asks_so.wishes.line asks_so.wishes.there in
        let lt = asks_so.wishes.names seat.kind seat.state formed in
        omega (arith, lt, seat.futures)

    -- each call may be made, but for the arrival
    gives_up : MayLetGoIf (unit_in (body_of p words) w.to) task.store
    gives_up = subst (λ o. MayLetGoIf o task.store) (sym old_unit) (may_let_go_old p plan.units task accepted runs.t words asks_so.q w.to (Some
        (next_number r.journal)) made has_then)

    abbrev goes : Body
    goes = OfKind (set_future asks_so.q w.to (Some (next_number r.journal)))

    abbrev engine : EngineState
    engine = with_store task (let_go_if (unit_in (body_of p words) w.to) task.store)

    abbrev new_row : ActivationRow
    new_row = record { task = next_number r.journal; after = request.after; start = None }

    -- the number of the new task is drawn, and has not arrived
    held : NumbersHeld (with_body accepted runs.t goes) (next_number r.journal ∷ [])
    held =
        held_body accepted (next_number r.journal ∷ []) makes_it.drawn runs.t (OfKind asks_so.q) goes has_then
        (λ u named. ⊎_elim
        (λ same. subst (HasTask (r.journal.rows ++ new_row ∷ [])) same (new_row, snoc_new r.journal.rows new_row, refl))
        (λ before. task_snoc r.journal.rows new_row u (known.run.numbers.names.in_bodies runs.t u (OfKind asks_so.q) here.has before))
        (set_named asks_so.q w.to (next_number r.journal) u named))

    -- it may arrive, whatever the words of the next frame are
    may_arrive : MayArrive block.unit (behind_at e.store w.after).waits engine.store
    may_arrive =
        may_arrive_still block.unit (behind_at e.store w.after).waits (unit_in (body_of p words) w.to) task.store
        (makes_it.arrives accepted.bodies r.roots (next_number r.journal ∷ []) (Some (runs.t, words)) task made makes_it.drawn).0

    -- each call may be made
    may_ask : MaySpawn block pool request.priority (behind_at e.store w.after) (names_of w.first) first (unit_in (body_of p words) w.to) e
    may_ask = may_spawn p plan may (Some (runs.t, words)) e r known runs.sees request block pool first w.first w.after w.class is gives
        (unit_in (body_of p words) w.to) gives_up may_arrive

    -- the task runs at its next line
    runs_then : RunsAt (with_body accepted runs.t goes) runs.t runs.n goes
    runs_then =
        let within = found_within (r.bodies ++ Some request.body ∷ []) runs.t (OfKind asks_so.q) has_then in
        record {
          row = here.row;
          running = here.running;
          there = snoc_old r.journal.rows new_row runs.n here.row here.there;
          of_task = here.of_task;
          has = found_put (r.bodies ++ Some request.body ∷ []) runs.t (Some goes) within.0 within.1;
        }

    -- with the words of the next frame
    module _ (next : List ℕ) (next_frame : IsFrame p next) (next_says : body_of p next ≡ passed_on (with_future w.to (Some block.unit)
        (body_of p words))) where
      -- the words say the next frame
      next_seen : SeesBody p (r.blocks ++ Some block ∷ []) next goes
      next_seen = record {
        frame = next_frame;
        says = next_says ∙ ap (λ b. passed_on (with_future w.to (Some block.unit) b)) says_then.says
            ∙ ap (λ o. OfKind (set_future (frame_with (unit_of (r.blocks ++ Some block ∷ [])) asks_so.q) w.to o)) (sym makes_it.unit)
            ∙ sym (ap OfKind (set_future-renamed (unit_of (r.blocks ++ Some block ∷ [])) asks_so.q w.to (Some (next_number r.journal))));
      }

      -- it has as many words
      long : length next ≡ length words
      long = frame_size p next next_frame ∙ ap (body_length p) next_seen.says ∙ sym (frame_size p words says_then.frame
          ∙ ap (body_length p) says_then.says)

      -- the variable names the new task, and what it named is let go
      set_sees : Sees p plan.units [] (Some (runs.t, next)) engine (with_body accepted runs.t goes)
      set_sees =
          subst (λ o. Sees p plan.units [] (Some (runs.t, next)) (with_store task (let_go_if o task.store)) (with_body accepted runs.t goes))
          (sym old_unit)
          (sees_set p plan.units task accepted runs.t words asks_so.q w.to (Some (next_number r.journal)) made has_then next within next_seen long)

      -- what the step comes to
      next_step : step p c plan.units r ≡ arrives (with_body accepted runs.t goes) (next_number r.journal) request.after
      next_step =
          step_is ∙ ap (λ o. asks_with o plan.units r runs.t (OfKind asks_so.q)
          (λ m. OfKind (set_future asks_so.q w.to (Some m))) request w.retry) (placed_is block pool gives)
          ∙ ap (λ b. cond b (arrives (with_body accepted runs.t goes) (next_number r.journal) request.after) (is_refused
          (places plan.units r block) runs.t Limit)) (number_left r e.journal runs.sees.journal lt)

      -- the new task arrives
      arrives_then : MayArrive block.unit (behind_at e.store w.after).waits engine.store
          × Sees p plan.units [] (Some (runs.t, next)) (with_store engine (arrived block.unit (behind_at e.store w.after).waits engine.store))
          (arrives (with_body accepted runs.t goes) (next_number r.journal) request.after)
      arrives_then = makes_it.arrives (put_number accepted.bodies runs.t (Some goes)) r.roots [] (Some (runs.t, next)) engine set_sees held

      -- and the task runs on
      runs_on : Runs p c plan (spawned block pool request.priority (behind_at e.store w.after) (names_of w.first) first (unit_in
          (body_of p words) w.to) e) unit next (step p c plan.units r)
      runs_on = record {
        reached = reached_next p c plan r runs.reached;
        t = runs.t;
        n = runs.n;
        body = goes;
        runs = subst (λ s. RunsAt s runs.t runs.n goes) (sym next_step) (arrives_runs (with_body accepted runs.t goes)
            (next_number r.journal) request.after runs.t runs.n goes runs_then);
        at = subst (λ s. unit_of s.blocks runs.t ≡ Some unit) (sym next_step)
            (ap (λ bs. unit_of bs runs.t) (arrives_blocks (with_body accepted runs.t goes) (next_number r.journal) request.after)
            ∙ unit_grows r.blocks (Some block) runs.t unit runs.at);
        sees = subst (Sees p plan.units [] (Some (runs.t, next)) (spawned block pool request.priority (behind_at e.store w.after)
            (names_of w.first) first (unit_in (body_of p words) w.to) e)) (sym next_step) arrives_then.1;
      }

    -- all of this together
    pub spawns : Spawns p c plan e unit words w block pool first r
    spawns = record {
      may = subst (λ priority. MaySpawn block pool priority (behind_at e.store w.after) (names_of w.first) first (unit_in (body_of p words) w.to) e)
          (sym asks_so.wishes.priority) may_ask;
      goes = λ next frame' says'. subst (λ priority. Runs p c plan (spawned block pool priority (behind_at e.store w.after) (names_of w.first) first
          (unit_in (body_of p words) w.to) e) unit next (step p c plan.units r))
          (sym asks_so.wishes.priority) (runs_on next frame' says');
    }

-- the laws
pub spawn_is_step : SpawnIsStep
spawn_is_step p c plan e r unit words w block pool first may runs wants gives lt frame says = spawns p c plan e r unit words w may runs wants block
    pool first gives lt frame says

pub spawn_at_the_limit : SpawnAtTheLimit
spawn_at_the_limit p c plan e r unit words w block pool may runs wants gives full = at_the_limit p c plan e r unit words w may runs wants block pool
    gives full

pub null_is_step : NullIsStep
null_is_step p c plan e r unit words w may runs wants full = (
  null_may p c plan e r unit words w may runs wants,
  null_ends p c plan e r unit words w
      may runs wants full,
)
