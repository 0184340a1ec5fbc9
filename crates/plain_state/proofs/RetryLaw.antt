-- A running task whose request found no room tries again: what the engine does is what the run does.
use Rattle.std.proofs.Common.{◌≡◌, ◌⊎◌, ℕ, ◌<◌, ◌≤◌, true, cond, Some, None, List, [], length, refl, sym, ◌∙◌, ap, subst, inl, inr, arith}
use Rattle.record_core.specs.Numbers.{HasTask}
use Rattle.std.proofs.lemmas.Option.{none-some}
use Rattle.task_syntax.specs.declared.value.Priority.TheVariants.{Low}
use Rattle.task_syntax.specs.declared.program.Program.{Program}
use Rattle.task_syntax.specs.declared.columns.Columns.{Columns}
use Rattle.task_meaning.specs.Frame.{set_future}
use Rattle.task_meaning.specs.Worths.{Respawn}
use Rattle.frame_code.specs.Words.{OfKind, body_of}
use Rattle.pool_core.specs.Pool.{HasNoRoom}
use Rattle.record_core.specs.Journal.{next_number}
use Rattle.record_core.specs.EndSeen.{RunPlan}
use Rattle.record_core.specs.declared.rows.Cause.TheVariants as cause
use Rattle.record_core.specs.declared.rows.CutTag.TheVariants.{Limit}
use Rattle.run_model.specs.State.{Body, WasCut as RunWasCut, Run}
use Rattle.run_model.specs.Placing.{pool_of, placed}
use Rattle.run_model.specs.Step.{arrives, is_refused, respawns, with_body, draws, counts_null, asks_with, step}
use Rattle.run_model.specs.Move.{RunsAt, notes_of}
use Rattle.run_model.proofs.FramesKept.{noted, runs_noted}
use Rattle.run_model.proofs.NumbersInvariant.{NumbersStand, BodyNames}
use Rattle.plain_state.specs.declared.record.Outcome.TheVariants.{WasCut}
use Rattle.plain_state.specs.Engine.{EngineState, null_counted}
use Rattle.plain_state.specs.Moves.{behind_at}
use Rattle.plain_state.specs.Laws.{Wanted, Wants, Finishes, RenewsTask, RetryIsStep}
use Rattle.plain_state.specs.Sees.{Sees, SeesBody, Runs, unit_of}
use Rattle.plain_state.proofs.Running.{reached_next, reached_stands, own_says}
use Rattle.plain_state.proofs.BehindSeen.{behind_seen}
use Rattle.plain_state.proofs.TaskEnds.{finishes_as}
use Rattle.plain_state.proofs.PoolParts.{no_room_placed}
use Rattle.plain_state.proofs.NotesSeen.{sees_null}
use Rattle.plain_state.proofs.NewArrives.{number_left, no_number_left}
use Rattle.plain_state.proofs.WantedSeen.{AsksSo, wants_seen}
use Rattle.plain_state.proofs.Renewal.{renews_as}

module _ (p : Program) (c : Columns) (plan : RunPlan) (e : EngineState) (r : Run) (unit : ℕ) (words : List ℕ) (w : Wanted)
    (runs : Runs p c plan e unit words r)
    (wants : Wants p c (body_of p words) w) (full : HasNoRoom e.store.pool w.class) (again : w.retry ≡ true) where
  was : SeesBody p r.blocks words runs.body
  was = own_says p plan.units [] runs.t words e r runs.body runs.sees runs.runs.has

  -- it asks for a task in the run
  asks : AsksSo p c (unit_of r.blocks) runs.body w
  asks = wants_seen p c (unit_of r.blocks) runs.body w (subst (λ b. Wants p c b w) was.says wants)

  -- the null answer is counted on both sides
  abbrev counted : Run
  counted = counts_null plan.units r w.class

  -- the engine sees the null answer counted
  seen : Sees p plan.units [] (Some (runs.t, words)) (null_counted w.class e) counted
  seen = sees_null p plan.units (Some (runs.t, words)) e r runs.sees w.class

  -- the numbers stand as before
  held : NumbersStand counted
  held = noted r (notes_of counted) (reached_stands p c plan r runs.reached).numbers

  -- the task still runs
  now_runs : RunsAt counted runs.t runs.n runs.body
  now_runs = runs_noted r (notes_of counted) runs.t runs.n runs.body runs.runs

  -- no block is placed
  none_placed : placed (pool_of plan.units r) w.class ≡ None
  none_placed = ap (λ pool. placed pool w.class) (sym runs.sees.pool) ∙ no_room_placed e.store.pool w.class asks.wishes.fits runs.sees.sound full

  -- so the step is a respawn from the body that it has
  respawned : step p c plan.units r ≡ respawns counted runs.t runs.body None Low
  respawned =
      let q = asks.q in
      let goes : ℕ → Body = λ m. OfKind (set_future q w.to (Some m)) in
      let request = asks.wishes.request in
      asks.wishes.steps plan.units r runs.t runs.n (subst (RunsAt r runs.t runs.n) asks.is runs.runs)
      ∙ ap (λ k. asks_with (placed (pool_of plan.units r) k) plan.units r runs.t (OfKind q) goes request w.retry) asks.wishes.class
      ∙ ap (λ o. asks_with o plan.units r runs.t (OfKind q) goes request w.retry) none_placed
      ∙ ap (asks_with None plan.units r runs.t (OfKind q) goes request) again
      ∙ ap (λ k. respawns (counts_null plan.units r k) runs.t (OfKind q) None Low) asks.wishes.class
      ∙ ap (λ b. respawns counted runs.t b None Low) (sym asks.is)

  -- with a number left it is renewed
  tries_again : length e.journal.rows < e.journal.limit
      → RenewsTask p c plan (null_counted w.class e) unit Low (behind_at e.store None) [] words (step p c plan.units r)
  tries_again lt =
      renews_as p c plan (null_counted w.class e) counted unit words runs.t runs.n runs.body held now_runs runs.at seen None Low
      (behind_at e.store None) runs.body [] words []
      (behind_seen p plan.units [] (Some (runs.t, words)) (null_counted w.class e) counted seen None None refl (λ u is. absurd (none-some u is)))
      (λ u. omega arith) refl was refl (λ u names. absurd_after u names) (step p c plan.units r) (reached_next p c plan r runs.reached)
      (respawned ∙ ap (λ b. cond b
      (arrives (with_body (record (draws counted (Some runs.t) None Low (Respawn runs.t None) None None) { running = None }) runs.t runs.body)
      (next_number counted.journal) None) (is_refused counted runs.t Limit))
      (number_left r e.journal runs.sees.journal lt))
    where
      absurd_after : (u : ℕ) → BodyNames runs.body u ⊎ (None ≡ Some u)
          → HasTask r.journal.rows u
      absurd_after u (inl named) = held.names.in_bodies runs.t u runs.body runs.runs.has named
      absurd_after u (inr is) = absurd (none-some u is)

  -- with none left it is cut
  is_cut : e.journal.limit ≤ length e.journal.rows
      → Finishes p c plan (null_counted w.class e) unit words (WasCut Limit) cause.Limit (step p c plan.units r)
  is_cut ge =
      finishes_as p c plan (null_counted w.class e) counted unit words runs.t runs.n runs.body held now_runs runs.at seen
      (RunWasCut Limit) cause.Limit (step p c plan.units r) tt (reached_next p c plan r runs.reached)
      (respawned ∙ ap (λ b. cond b
      (arrives (with_body (record (draws counted (Some runs.t) None Low (Respawn runs.t None) None None) { running = None }) runs.t runs.body)
      (next_number counted.journal) None) (is_refused counted runs.t Limit))
      (no_number_left r e.journal runs.sees.journal ge))

-- to try again is what the step does
pub retry_is_step : RetryIsStep
retry_is_step p c plan e r unit words w may runs wants full again =
    (tries_again p c plan e r unit words w runs wants full again, is_cut p c plan e r unit words w runs wants full again)
