-- How the running task ends, or goes on by a further activation, and when it may.
use Rattle.std.specs.Prelude.{◌≡◌, ℕ, zero, suc, ◌<◌, ◌≤◌, Bool, true, false, Option, Some, None, List, [], ◌∷◌, length, slice_get, IfSome}
use Rattle.task_syntax.specs.declared.program.Program.{Program}
use Rattle.task_syntax.specs.declared.columns.Columns.{Columns}
use Rattle.task_syntax.specs.declared.value.Priority.{Priority}
use Rattle.task_syntax.specs.declared.value.Priority.TheVariants.{Low}
use Rattle.record_core.specs.Numbers.{HasTask, by_number}
use Rattle.record_core.specs.Journal.{next_number, with_accepted, IsUnderWay}
use Rattle.record_core.specs.EndSeen.{RunPlan}
use Rattle.record_core.specs.declared.rows.ActivationRow.{ActivationRow}
use Rattle.record_core.specs.declared.rows.Cause.{Cause}
use Rattle.record_core.specs.declared.rows.Cause.TheVariants as cause
use Rattle.record_core.specs.declared.rows.CutTag.{CutTag}
use Rattle.record_core.specs.declared.rows.CutTag.TheVariants.{Null, Limit}
use Rattle.run_model.specs.State.{Run}
use Rattle.plain_state.specs.declared.record.Outcome.{Outcome}
use Rattle.plain_state.specs.declared.record.Outcome.TheVariants.{WasCut}
use Rattle.plain_state.specs.declared.record.Record.{Record}
use Rattle.plain_state.specs.declared.record.Behind.{Behind}
use Rattle.plain_state.specs.Store.{StoreState, first_in, let_go_all, renewed, stored, FitsAt, HasUnit, MayLetGoAll}
use Rattle.plain_state.specs.Engine.{EngineState, with_store}
use Rattle.plain_state.specs.Sees.{Rests}
use Rattle.plain_state.specs.Moves.{arrived, behind_none, finished, MayArrive, MayFinish}
use Rattle.plain_state.specs.Laws.{Finishes, RenewsTask}

-- the task at a unit

abbrev pub task_or_none : Option Record → ℕ
task_or_none None = 0
task_or_none (Some k) = k.task

abbrev pub task_at : EngineState → ℕ → ℕ
task_at e unit = task_or_none (slice_get e.store.records unit)

abbrev pub next_in : Option Record → Option ℕ
next_in None = None
next_in (Some k) = k.next

-- the units of at most so many records, from one on along the list that it stands in
abbrev pub chain_from : List Record → ℕ → Option ℕ → List ℕ
chain_from records zero first = []
chain_from records (suc n) None = []
chain_from records (suc n) (Some unit) = unit ∷ chain_from records n (next_in (slice_get records unit))

-- the waiters of the task at a unit
abbrev pub waiters_at : StoreState → ℕ → List ℕ
waiters_at s unit = chain_from s.records (length s.records) (first_in (slice_get s.records unit))

-- the end of the task at a unit

abbrev pub finished_at : ℕ → List ℕ → Outcome → Cause → EngineState → EngineState
finished_at unit names outcome why e = finished unit (task_at e unit) (waiters_at e.store unit) names outcome why e

pub record MayFinishAt (unit : ℕ) (names : List ℕ) (outcome : Outcome) (why : Cause) (e : EngineState) : Type 0 where
  pub within : HasUnit e.store unit
  pub may : MayFinish unit (task_at e unit) (waiters_at e.store unit) names outcome why e

-- the cause of what a task was refused
abbrev pub cause_of_refusal : CutTag → Cause
cause_of_refusal Null = cause.Null
cause_of_refusal Limit = cause.Limit

-- a further activation

abbrev pub renewed_at : ℕ → Priority → Behind → EngineState → EngineState
renewed_at unit priority behind e = record e {
  journal = with_accepted e.journal (Some (task_at e unit)) behind.task;
  store = renewed unit (next_number e.journal) priority behind.cut e.store;
}

pub record MayRenewAt (unit : ℕ) (behind : Behind) (e : EngineState) : Type 0 where
  pub within : HasUnit e.store unit
  pub under_way : IsUnderWay e.journal (task_at e unit)
  pub after : IfSome behind.task (HasTask e.journal.rows)

-- the task has a further activation, if a number was left
abbrev pub IsRenewed : ℕ → Priority → Behind → EngineState → Bool → EngineState → Type 0
IsRenewed unit priority behind old true new = (length old.journal.rows < old.journal.limit) × (new ≡ renewed_at unit priority behind old)
IsRenewed unit priority behind old false new = (old.journal.limit ≤ length old.journal.rows) × (new ≡ old)

-- moments

-- the columns and the plan of a run, and a state of it
pub record Moment : Type 0 where
  pub columns : Columns
  pub plan : RunPlan
  pub run : Run

-- at this moment nothing runs
abbrev pub RestsAt : Program → EngineState → Moment → Type 0
RestsAt p e m = Rests p m.columns m.plan e m.run

-- at this moment the task at the unit, whose frame has these words, has ended so, and nothing was done for it yet
abbrev pub EndsAt : Program → EngineState → ℕ → List ℕ → Outcome → Cause → Moment → Type 0
EndsAt p e unit words outcome why m = Finishes p m.columns m.plan e unit words outcome why m.run

abbrev pub MayEnd : Program → EngineState → ℕ → List ℕ → Outcome → Cause → Type 0
MayEnd p e unit words outcome why = (m : Moment) × EndsAt p e unit words outcome why m

-- at each such moment nothing runs afterwards
abbrev pub Ends : Program → EngineState → ℕ → List ℕ → Outcome → Cause → EngineState → Type 0
Ends p old unit words outcome why new = (m : Moment) → EndsAt p old unit words outcome why m → RestsAt p new m

-- it tries again, if a number is left, and else it is cut
pub record RetriesAt (p : Program) (e : EngineState) (unit : ℕ) (words : List ℕ) (m : Moment) : Type 0 where
  pub renews : length e.journal.rows < e.journal.limit → RenewsTask p m.columns m.plan e unit Low behind_none [] words m.run
  pub ends : e.journal.limit ≤ length e.journal.rows → EndsAt p e unit words (WasCut Limit) cause.Limit m

abbrev pub MayRetry : Program → EngineState → ℕ → List ℕ → Type 0
MayRetry p e unit words = (m : Moment) × RetriesAt p e unit words m

abbrev pub Retries : Program → EngineState → ℕ → List ℕ → EngineState → Type 0
Retries p old unit words new = (m : Moment) → RetriesAt p old unit words m → RestsAt p new m

-- it was refused what it asked for: after a null answer it may try again
abbrev pub RefusedAt : Program → EngineState → ℕ → List ℕ → CutTag → Bool → Moment → Type 0
RefusedAt p e unit words Null true m = RetriesAt p e unit words m
RefusedAt p e unit words Null false m = EndsAt p e unit words (WasCut Null) cause.Null m
RefusedAt p e unit words Limit retry m = EndsAt p e unit words (WasCut Limit) cause.Limit m

abbrev pub MayBeRefused : Program → EngineState → ℕ → List ℕ → CutTag → Bool → Type 0
MayBeRefused p e unit words tag retry = (m : Moment) × RefusedAt p e unit words tag retry m

abbrev pub EndsRefused : Program → EngineState → ℕ → List ℕ → CutTag → Bool → EngineState → Type 0
EndsRefused p old unit words tag retry new = (m : Moment) → RefusedAt p old unit words tag retry m → RestsAt p new m

-- it is cut because of the task that its activation of this number is behind
abbrev pub CutAt : Program → EngineState → ℕ → List ℕ → ℕ → CutTag → ℕ → Moment → Type 0
CutAt p e unit words number tag after m =
    (row : ActivationRow) × (by_number e.journal.rows number ≡ Some row) × (row.after ≡ Some after) × EndsAt p e unit words (WasCut tag) (cause.By after) m

abbrev pub MayBeCut : Program → EngineState → ℕ → List ℕ → ℕ → CutTag → Type 0
MayBeCut p e unit words number tag = (after : ℕ) × (m : Moment) × CutAt p e unit words number tag after m

abbrev pub EndsCut : Program → EngineState → ℕ → List ℕ → ℕ → CutTag → EngineState → Type 0
EndsCut p old unit words number tag new = (after : ℕ) (m : Moment) → CutAt p old unit words number tag after m → RestsAt p new m

-- a further activation goes on with these words, gives up what its new state does not hold, and waits or may start
abbrev pub gone_on : ℕ → Behind → List ℕ → List ℕ → EngineState → EngineState
gone_on unit behind given_up words e = with_store e (arrived unit behind.waits (stored unit words (let_go_all given_up e.store)))

pub record MayGoOn (unit : ℕ) (behind : Behind) (given_up words : List ℕ) (s : StoreState) : Type 0 where
  pub within : HasUnit s unit
  pub gives_up : MayLetGoAll given_up s
  pub fits : FitsAt s unit (length words)
  pub arrives : MayArrive unit behind.waits (stored unit words (let_go_all given_up s))
