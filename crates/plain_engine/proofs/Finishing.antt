-- The end of a task, by the list of its waiters that its record has.
use Rattle.std.proofs.Common.{◌≡◌, ℕ, zero, suc, ◌≤◌, Option, Some, None, List, [], ◌∷◌, length, slice_get, refl, sym, ◌∙◌, ap, subst, arith}
use Rattle.task_syntax.specs.declared.program.Program.{Program}
use Rattle.task_syntax.specs.declared.columns.Columns.{Columns}
use Rattle.record_core.specs.EndSeen.{RunPlan}
use Rattle.record_core.specs.declared.rows.Cause.{Cause}
use Rattle.run_model.specs.State.{Run}
use Rattle.plain_state.specs.declared.record.Outcome.{Outcome}
use Rattle.plain_state.specs.declared.record.Record.{Record}
use Rattle.plain_state.specs.Store.{StoreState, Chained, MayComplete}
use Rattle.plain_state.specs.Engine.{EngineState}
use Rattle.plain_state.specs.Sees.{Rests}
use Rattle.plain_state.specs.Moves.{MayFinish, finished}
use Rattle.plain_state.specs.Laws.{Finishes}
use Rattle.plain_engine.specs.Asking.{units_in}
use Rattle.plain_engine.specs.Ending.{MayFinishAt, chain_from, finished_at, next_in, task_at, task_or_none, waiters_at}

-- a list that is chained is found by going along it, in as many steps as it is long
chain_is : (records : List Record) (n : ℕ) (first : Option ℕ) (units : List ℕ) → Chained records first units → length units ≤ n → chain_from records n first ≡ units
chain_is records zero first [] chained few = refl
chain_is records zero first (at ∷ units) chained few = absurd (omega (arith, few))
chain_is records (suc n) None [] chained few = refl
chain_is records (suc n) None (at ∷ units) chained few = absurd chained
chain_is records (suc n) (Some unit) [] chained few = absurd chained
chain_is records (suc n) (Some unit) (at ∷ units) (same, (known, there, rest)) few =
    ap (λ next. unit ∷ chain_from records n (next_in next)) there
    ∙ (ap (λ left. unit ∷ left) (chain_is records n known.next units rest (omega (arith, few))) ∙ ap (λ u. u ∷ units) same)

-- the waiters of a task that may end
waiters_are : (s : StoreState) (unit : ℕ) (waiters : List ℕ) → MayComplete unit waiters s → waiters_at s unit ≡ waiters
waiters_are s unit waiters may =
    chain_is s.records (length s.records) (Rattle.plain_state.specs.Store.first_in (slice_get s.records unit)) waiters may.chain (omega (arith, may.places))

module _ (p : Program) (c : Columns) (plan : RunPlan) (e : EngineState) (unit : ℕ) (words : List ℕ) (outcome : Outcome) (why : Cause) (r : Run)
    (ends : Finishes p c plan e unit words outcome why r) where
  same_task : task_at e unit ≡ ends.task
  same_task = ap task_or_none ends.there ∙ ends.of_task

  same_waiters : waiters_at e.store unit ≡ ends.waiters
  same_waiters = waiters_are e.store unit ends.waiters ends.may.completes

  -- where a task has ended so, all may be done for it
  pub may_finish : MayFinishAt unit (units_in p words) outcome why e
  may_finish = record {
    within = ends.may.completes.within;
    may = subst (λ waiters. MayFinish unit (task_at e unit) waiters (units_in p words) outcome why e) (sym same_waiters)
        (subst (λ task. MayFinish unit task ends.waiters (units_in p words) outcome why e) (sym same_task) ends.may);
  }

  -- and nothing runs afterwards
  pub then_rests : Rests p c plan (finished_at unit (units_in p words) outcome why e) r
  then_rests = subst (λ waiters. Rests p c plan (finished unit (task_at e unit) waiters (units_in p words) outcome why e) r) (sym same_waiters)
      (subst (λ task. Rests p c plan (finished unit task ends.waiters (units_in p words) outcome why e) r) (sym same_task) ends.rests)
