-- What the loads that tell of tasks need and tell, of their pass before and after, and the step that makes a waiter ready.
use Rattle.std.specs.Prelude.{◌≡◌, ◌≢◌, ℕ, ◌≤◌, List, [], Option, Some, IfSome}
use Rattle.record_core.specs.Counting.{Has}
use Rattle.kt_words.specs.declared.phase.Phase.TheVariants.{Ready, Complete}
use Rattle.kt_words.specs.declared.plan.Plan.{Plan}
use Rattle.kt_words.specs.declared.state_word.StateWord.{StateWord}
use Rattle.kt_words.specs.declared.tag.Tag.{Tag}
use Rattle.kt_words.specs.declared.tag.Tag.TheVariants.{Number}
use Rattle.kt_words.specs.StateWords.{FitsStateWord, packed_state, priority_of}
use Rattle.task_meaning.specs.Worths.{Accepted}
use Rattle.table_core.specs.Addresses.{state, outcome, journal}
use Rattle.table_core.specs.Holdings.{Waiter, Run, SawTask, SawDone}
use Rattle.table_core.specs.Own.{known_in}
use Rattle.table_core.specs.RecordViews.{saw_state}
use Rattle.table_core.specs.Story.{Outcome, Fact, IsAccepted, IsOver}
use Rattle.table_core.specs.Views.{saw}
use Rattle.table_core.specs.WaitViews.{readied}
use Rattle.table_core.specs.declared.view.View.{View}
use Rattle.schedule_rule.specs.Calls.{after_in}
use Rattle.schedule_rule.specs.LifeViews.{knowing, MayStart}
use Rattle.schedule_rule.specs.Results.{tag_for}
use Rattle.schedule_rule.specs.Rows.{word_of_task}
use Rattle.schedule_rule.specs.SeeingViews.{SawNumber, SeesTask, IsWaitingWord, ready_word}
use Rattle.step_table.specs.declared.pass.Pass.{Pass}
use Rattle.step_table.specs.declared.record_tokens.OwnWord.{OwnWord}
use Rattle.step_table.specs.declared.record_tokens.Started.{Started}
use Rattle.step_table.specs.Passes.{view}
use Rattle.step_table.specs.RecordHands.{RunAt, WaiterAt, HasFuture, word_of_record, OwnAt}

-- the task of the record at u was found, is known to be one, and is what was seen there before
abbrev pub SeesTaskOf : Plan → ℕ → Pass → ℕ → Pass → Type 0
SeesTaskOf g u old task new = SeesTask g.limit u (view old) task (view new)

-- each task that was seen at the record u is known to have ended as the tag says
abbrev pub EndsAs : View → ℕ → Tag → Type 0
EndsAs v u tag = (t : ℕ) → Has (SawTask u t) v.sights → (outcome : Outcome) × Has (IsOver t outcome) v.facts × (tag ≡ tag_for outcome)

-- The state word was found. Where it says that the record is done, it is kept as a sight, and it is known how each task that was
-- seen there has ended; else nothing more is known.
pub record SeesEnd (u : ℕ) (old : Pass) (word : StateWord) (new : Pass) : Type 0 where
  pub fits : FitsStateWord word
  pub more : List Fact
  pub view_is : view new ≡ knowing more (saw (state u) (packed_state word) (saw_state u (packed_state word) (view old)))
  pub nothing : word.phase ≢ Complete → more ≡ []
  pub kept : word.phase ≡ Complete → Has (SawDone u (packed_state word)) (view new).sights
  pub ends : word.phase ≡ Complete → EndsAs (view new) u word.tag

-- the record was seen done, with this word, under a reference that the pass still has
pub record MaySeeResult (g : Plan) (u : ℕ) (seen : StateWord) (v : View) : Type 0 where
  pub future : HasFuture g u v
  pub fits : FitsStateWord seen
  pub saw : Has (SawDone u (packed_state seen)) v.sights

-- The result of the done record was found. Where its state word says that a number was given, each task that was seen there is
-- known to have given this one; else nothing more is known.
pub record SeesResult (u : ℕ) (seen : StateWord) (old : Pass) (value : ℕ) (new : Pass) : Type 0 where
  pub more : List Fact
  pub view_is : view new ≡ knowing more (saw (outcome u) value (view old))
  pub nothing : seen.tag ≢ Number → more ≡ []
  pub gave : seen.tag ≡ Number → SawNumber (view new) u value

-- the word is one of the table's, and what stands there is known
pub record KnowsWord (g : Plan) (u : ℕ) (word : OwnWord) (v : View) : Type 0 where
  pub at : OwnAt g u word
  pub value : ℕ
  pub known : known_in (word_of_record word u) v.known ≡ Some value

-- what was known of the word was found, and nothing more is known
pub record ReadsKnown (u : ℕ) (word : OwnWord) (old : Pass) (value : ℕ) (new : Pass) : Type 0 where
  pub known : known_in (word_of_record word u) (view old).known ≡ Some value
  pub view_is : view new ≡ saw (word_of_record word u) value (view old)

-- the pass runs the record under the number of the value, which is one of the journal's
pub record IsStarted (g : Plan) (started : Started) (v : View) (r : Run) : Type 0 where
  pub run : RunAt g started.unit v r
  pub number_is : r.number ≡ started.number
  pub number_fits : started.number ≤ g.limit

abbrev pub HasStarted : Plan → Started → View → Type 0
HasStarted g started v = (r : Run) × IsStarted g started v r

-- the row of the run's number says the run's task
pub record ReadsTask (g : Plan) (started : Started) (old : Pass) (task : ℕ) (new : Pass) : Type 0 where
  pub task_is : (r : Run) → RunAt g started.unit (view old) r → task ≡ r.task
  pub view_is : view new ≡ saw (journal started.number 0) task (view old)

-- The row of the run's number says the predecessor of each call of that number which the pass knows. A predecessor is a number up
-- to the limit.
pub record ReadsAfter (g : Plan) (started : Started) (old : Pass) (after : Option ℕ) (new : Pass) : Type 0 where
  pub after_is : (call : Accepted) → Has (IsAccepted started.number call) (view old).facts → after ≡ after_in (Some call)
  pub few : IfSome after (λ t. (1 ≤ t) × (t ≤ g.limit))
  pub view_is : view new ≡ saw (journal started.number 1) (word_of_task after) (view old)

-- a waiter of the pass that may start
pub record MayReady (g : Plan) (u : ℕ) (v : View) : Type 0 where
  pub waiter : Waiter
  pub at : WaiterAt g u v waiter
  pub start : MayStart v waiter.number

-- a state word that says ready
pub record IsReadyWord (word : StateWord) : Type 0 where
  pub fits : FitsStateWord word
  pub phase_is : word.phase ≡ Ready

-- The waiter at u is ready, and in no hand any more. The word `was` that was found there says that it waits under its number. It says
-- ready now, and nothing else of it has changed.
pub record Readies (g : Plan) (u : ℕ) (old : Pass) (word : StateWord) (new : Pass) : Type 0 where
  pub is_ready : IsReadyWord word
  pub number_is : (w : Waiter) → WaiterAt g u (view old) w → word.number ≡ w.number
  pub was : ℕ
  pub waited : (w : Waiter) → WaiterAt g u (view old) w → IsWaitingWord w.number was
  pub priority_is : word.priority ≡ priority_of was
  pub word_is : packed_state word ≡ ready_word was
  pub found : ℕ
  pub view_is : view new ≡ saw (state u) found (saw (state u) was (readied u (view old)))
