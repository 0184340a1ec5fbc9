-- What a completion needs and tells, and what a chain's next member gives.
use Rattle.std.specs.Prelude.{◌≡◌, ℕ, true, false, Some, None, List, ◌∷◌, ◌++◌}
use Rattle.record_core.specs.Counting.{Has, dropped}
use Rattle.record_core.specs.declared.rows.CutTag.TheVariants as cut
use Rattle.kt_words.specs.Capacity.{block_units}
use Rattle.kt_words.specs.StateWords.{priority_of}
use Rattle.kt_words.specs.declared.plan.Plan.{Plan}
use Rattle.task_syntax.specs.declared.value.Value.TheVariants.{Number, Trapped}
use Rattle.ready_queues.specs.declared.entry.Entry.{Entry}
use Rattle.frame_code.specs.Units.{named_in}
use Rattle.table_core.specs.Addresses.{Addr, state, outcome as result_word}
use Rattle.table_core.specs.Asking.{OfTask, IsNull, IsLimit, Null, Limit}
use Rattle.table_core.specs.Holdings.{Run, Done}
use Rattle.table_core.specs.RecordViews.{forget_words, is_done_at}
use Rattle.table_core.specs.Story.{Outcome as OutcomeOf, Gave, WasCut, Fact, IsOver}
use Rattle.table_core.specs.WaitViews.{is_run_at, with_chain, same_list}
use Rattle.table_core.specs.declared.setup.Setup.{Setup}
use Rattle.table_core.specs.declared.view.View.{View}
use Rattle.schedule_rule.specs.LifeViews.{MayStart, answers_left}
use Rattle.schedule_rule.specs.PlacingViews.{less}
use Rattle.schedule_rule.specs.SeeingViews.{IsWaitingWord}
use Rattle.step_table.specs.ListHands.{HasChain}
use Rattle.step_table.specs.RecordHands.{RunAt, DoneAt}
use Rattle.step_table.specs.declared.record_tokens.Chain.{Chain}
use Rattle.schedule_core.specs.Entries.{priority_at}
use Rattle.schedule_core.specs.References.{Grows}
use Rattle.schedule_core.specs.Runs.{IsInStep}
use Rattle.schedule_core.specs.declared.answers.Outcome.{Outcome}
use Rattle.schedule_core.specs.declared.answers.Outcome.TheVariants as ends
use Rattle.schedule_core.specs.declared.running.Running.{Running}

-- how the task ends
abbrev pub outcome_as : Outcome → OutcomeOf
outcome_as (ends.Number n) = Gave (Number n)
outcome_as (ends.Trapped trap) = Gave (Trapped trap)
outcome_as ends.RefusedNull = WasCut Null IsNull
outcome_as ends.RefusedLimit = WasCut Limit IsLimit

-- A task gives a value only where nothing was refused to it, and ends by a refusal only where this was its last answer; that the limit is
-- met was answered to it.
abbrev pub WasRefused : Outcome → Running → View → Type 0
WasRefused (ends.Number n) x v = x.refused ≡ None
WasRefused (ends.Trapped trap) x v = x.refused ≡ None
WasRefused ends.RefusedNull x v = x.refused ≡ Some cut.Null
WasRefused ends.RefusedLimit x v = (x.refused ≡ Some cut.Limit) × Has (record { asker = OfTask x.task; refusal = IsLimit }) v.answers

-- No record was made for a task that its variable does not name.
pub record MayComplete (g : Setup) (x : Running) (outcome : Outcome) (v : View) : Type 0 where
  pub in_step : IsInStep g x v
  pub refused : WasRefused outcome x v
  pub unmade : x.made ≡ None

-- The task is over with this outcome, and the list of its record is closed: its members are the chain. The references of its frame and
-- the scheduler's own are given up, and so is what was answered to the task.
pub record Completes (g : Setup) (x : Running) (outcome : Outcome) (old : View) (chain : Chain) (new : View) : Type 0 where
  pub run : Run
  pub was : RunAt g.plan x.started.unit old run
  pub members : List ℕ
  pub has : HasChain g.plan chain new members
  pub settles : Grows old.settles new.settles
  pub seen : Grows old.seen new.seen
  pub view_is : new ≡ record old {
    runs = dropped (is_run_at x.started.unit) old.runs;
    known = forget_words x.started.unit (block_units run.class) old.known;
    futures = less old.futures (named_in g.checked x.frame.items);
    sights = new.sights;
    chains = with_chain members old.chains;
    answers = answers_left x.task old.answers;
    facts = IsOver x.task (outcome_as outcome) ∷ old.facts;
    settles = new.settles;
    seen = new.seen;
  }

-- The first of the chain may start, and is ready; the others are a chain of the pass. Its state word was seen in this call: it waited
-- under the number of the entry and with its priority.
pub record GivesNext (g : Setup) (members : List ℕ) (old : View) (left : Entry × Chain) (new : View) : Type 0 where
  pub rest : List ℕ
  pub first_is : members ≡ left.0.unit ∷ rest
  pub has : HasChain g.plan left.1 new rest
  pub more : List Fact
  pub seen : Grows old.seen new.seen
  pub was : ℕ
  pub saw : Has (state left.0.unit, was) seen.0
  pub waited : IsWaitingWord left.0.number was
  pub priority_is : left.0.priority ≡ priority_at (priority_of was)
  pub start : MayStart new left.0.number
  pub view_is : new ≡ record old { chains = with_chain rest (dropped (same_list (left.0.unit ∷ rest)) old.chains); facts = more ++ old.facts; seen = new.seen }

-- whichever chain the value names
abbrev pub GivesFirst : Setup → Chain → View → Entry × Chain → View → Type 0
GivesFirst g chain old left new = (members : List ℕ) → HasChain g.plan chain old members → GivesNext g members old left new

-- what is known once the number that a task gives is written into its record
abbrev pub with_result : ℕ → Outcome → List (Addr × ℕ) → List (Addr × ℕ)
with_result unit (ends.Number n) known = (result_word unit, n) ∷ known
with_result unit (ends.Trapped trap) known = known
with_result unit ends.RefusedNull known = known
with_result unit ends.RefusedLimit known = known

-- the result word is written where the task gives a number, and nothing else has changed
pub record WritesResult (unit : ℕ) (outcome : Outcome) (old new : View) : Type 0 where
  pub seen : Grows old.seen new.seen
  pub view_is : new ≡ record old { known = with_result unit outcome old.known; seen = new.seen }

-- the record at the unit is done in the hand with a closed list, counts as living, and is at no last reference
pub record MayClose (g : Plan) (unit : ℕ) (v : View) : Type 0 where
  pub done : Done
  pub at : DoneAt g unit v done
  pub closed : done.closed ≡ true
  pub counted : done.out ≡ false

-- the record is in the hand no more, and its block is settled where nobody refers to it
pub record Closes (unit : ℕ) (old new : View) : Type 0 where
  pub settles : Grows old.settles new.settles
  pub seen : Grows old.seen new.seen
  pub view_is : new ≡ record old { done = dropped (is_done_at unit) old.done; settles = new.settles; seen = new.seen }
