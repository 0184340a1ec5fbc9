-- What a hand of a pass has.
use Rattle.std.specs.Prelude.{◌≡◌, ℕ, ◌+◌, ◌<◌, ◌≤◌, List, length, map, ⊤}
use Rattle.record_core.specs.Counting.{At, Has, times}
use Rattle.kt_words.specs.declared.plan.Plan.{Plan}
use Rattle.table_core.specs.Addresses.{units_of}
use Rattle.table_core.specs.Holdings.{Waiter, Run, SawTask}
use Rattle.table_core.specs.Lists.{Each}
use Rattle.table_core.specs.WaitLists.{waits_at}
use Rattle.table_core.specs.declared.view.View.{View}
use Rattle.schedule_rule.specs.LifeViews.{KnowsBehind}
use Rattle.step_table.specs.declared.record_tokens.Linkable.{Linkable}
use Rattle.step_table.specs.declared.record_tokens.Started.{Started}
use Rattle.step_table.specs.declared.record_tokens.Chain.{Chain}
use Rattle.step_table.specs.RecordHands.{HasFuture, RunAt}
use Rattle.step_table.specs.ListHands.{IsUnclosed, IsChain}
use Rattle.wait_rows.specs.declared.stage.Owner.{Owner}
use Rattle.wait_rows.specs.declared.stage.Stage.{Stage}
use Rattle.wait_rows.specs.declared.stage.Stage.TheVariants as stage
use Rattle.wait_rows.specs.declared.stage.Waiting.{Waiting}
use Rattle.wait_rows.specs.declared.hand.Hand.{Hand}

abbrev pub units : List Waiting → List ℕ
units l = map (λ (x : Waiting). x.waiter.unit) l

abbrev pub units_back : List Linkable → List ℕ
units_back l = map (λ (x : Linkable). x.unit) l

-- the value is of a run at unit u, by which no number is unplaced
pub record RunsAt (g : Plan) (u : ℕ) (s : Started) (v : View) : Type 0 where
  pub unit_is : s.unit ≡ u
  pub run : Run
  pub at : RunAt g u v run
  pub number_is : run.number ≡ s.number
  pub placed : run.unplaced ≡ 0

-- the record at unit u stands so in the view
abbrev pub StandsAs : Plan → ℕ → Stage → View → Type 0
StandsAs g u (stage.Running s) v = RunsAt g u s v
StandsAs g u (stage.Done f) v = (f.unit ≡ u) × IsUnclosed g u v
StandsAs g u stage.Closed v = ⊤

-- The pass has a reference to each record with a list, of another unit each, and has seen its task there.
pub record HasLists (g : Plan) (owners : List Owner) (stages : List Stage) (v : View) : Type 0 where
  pub count : length stages ≡ length owners
  pub refers : (i : ℕ) (o : Owner) → At owners i o → HasFuture g o.future.unit v
  pub sights : (i : ℕ) (o : Owner) → At owners i o → Has (SawTask o.future.unit o.task) v.sights
  pub apart : (i j : ℕ) (a b : Owner) → At owners i a → At owners j b → a.future.unit ≡ b.future.unit → i ≡ j
  pub stands : (i : ℕ) (o : Owner) (s : Stage) → At owners i o → At stages i s → StandsAs g o.future.unit s v

-- the call of a waiting record is behind the task of the record whose list it is to join
pub record JoinsList (owners : List Owner) (x : Waiting) (v : View) : Type 0 where
  pub owner : Owner
  pub there : At owners x.list owner
  pub behind : (w : Waiter) → Has w v.waiting → w.unit ≡ x.waiter.unit → KnowsBehind v owner.future.unit w.number

-- each record of the hand waits in the view, as often as it is in the hand
pub record HasWaiters (g : Plan) (owners : List Owner) (waiting : List Waiting) (back : List Linkable) (v : View) : Type 0 where
  pub count : (u : ℕ) → times u (units waiting) + times u (units_back back) ≤ waits_at u v.waiting
  pub near : Each (λ (x : Waiting). x.waiter.unit < units_of g) waiting
  pub joins : (k : ℕ) (x : Waiting) → At waiting k x → JoinsList owners x v

pub record HasHand (g : Plan) (waiting : List Waiting) (back : List Linkable) (owners : List Owner) (stages : List Stage) (v : View) : Type 0 where
  pub waiters : HasWaiters g owners waiting back v
  pub lists : HasLists g owners stages v

abbrev pub IsHand : Plan → Hand → View → Type 0
IsHand g hand v = HasHand g hand.waiting.items hand.back.items hand.owners.items hand.stages.items v

-- a record of the chain has left it
pub record IsShorter (g : Plan) (chain : Chain) (v : View) (left : ℕ × Chain) : Type 0 where
  pub is_chain : IsChain g left.1 v
  pub shorter : left.1.length + 1 ≡ chain.length
