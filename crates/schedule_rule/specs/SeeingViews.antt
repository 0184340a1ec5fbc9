-- What the loads that tell of tasks do to a view, and the store that makes a waiter ready.
use Rattle.std.specs.Prelude.{◌≡◌, ◌≢◌, ℕ, ◌≤◌, List, [], ◌∷◌, Some}
use Rattle.record_core.specs.Counting.{Has}
use Rattle.kt_words.specs.StateWords.{phase_of, priority_of, tag_of, tag_code, number_of, state_word, IsStateWord}
use Rattle.kt_words.specs.declared.tag.Tag.TheVariants as tag
use Rattle.task_syntax.specs.declared.value.Value.TheVariants.{Number}
use Rattle.task_meaning.specs.Worths.{Accepted}
use Rattle.table_core.specs.Addresses.{state, task, outcome}
use Rattle.table_core.specs.Holdings.{SawTask}
use Rattle.table_core.specs.RecordViews.{saw_state}
use Rattle.table_core.specs.Story.{Outcome, Gave, Fact, IsAccepted, IsOver, IsTask}
use Rattle.table_core.specs.Views.{saw}
use Rattle.table_core.specs.declared.view.View.{View}
use Rattle.schedule_rule.specs.Calls.{after_in}
use Rattle.schedule_rule.specs.LifeViews.{knowing}
use Rattle.schedule_rule.specs.Results.{tag_for}
use Rattle.schedule_rule.specs.Rows.{word_of_task}

-- the task of a record was seen under a reference to it
abbrev pub saw_task : ℕ → ℕ → View → View
saw_task u t v = record v { sights = SawTask u t ∷ v.sights }

-- What a load of the task word of u tells: the task is one of those that were accepted, so its number is no more than the limit,
-- and it is what was seen there before, if anything was.
pub record SeesTask (limit u : ℕ) (old : View) (found : ℕ) (new : View) : Type 0 where
  pub view_is : new ≡ knowing (IsTask found ∷ []) (saw (task u) found (saw_task u found old))
  pub some : 1 ≤ found
  pub few : found ≤ limit
  pub same : (t : ℕ) → Has (SawTask u t) old.sights → t ≡ found

-- each task that was seen at the record u is known to have ended as the state word says
abbrev pub SawEnd : View → ℕ → ℕ → Type 0
SawEnd v u word = (t : ℕ) → Has (SawTask u t) v.sights → (outcome : Outcome) × Has (IsOver t outcome) v.facts × (tag_of word ≡ tag_code (tag_for outcome))

-- The new view knows nothing more than the old one where the record that was found is not done. Where it is, the new view knows
-- how each task that was seen there has ended.
abbrev pub TellsDone : ℕ → ℕ → View → View → Type 0
TellsDone u found old new = (more : List Fact) × (new ≡ knowing more old) × (phase_of found ≢ 5 → more ≡ []) × (phase_of found ≡ 5 → SawEnd new u found)

-- what a load of the state word of u tells under a reference
abbrev pub SawStateOf : ℕ → View → ℕ → View → Type 0
SawStateOf u old found new = TellsDone u found (saw (state u) found (saw_state u found old)) new

-- each task that was seen at the record u is known to have given the number
abbrev pub SawNumber : View → ℕ → ℕ → Type 0
SawNumber v u n = (t : ℕ) → Has (SawTask u t) v.sights → Has (IsOver t (Gave (Number n))) v.facts

-- What a load of the result of the done record u tells, whose state word is known: where that word says that a number was given, it
-- is the one that was found.
abbrev pub TellsResult : (u word : ℕ) → View → ℕ → View → Type 0
TellsResult u word old found new = (more : List Fact) × (new ≡ knowing more (saw (outcome u) found old)) × (tag_of word ≢ tag_code tag.Number → more ≡ []) × (tag_of word ≡ tag_code tag.Number → SawNumber new u found)

-- What the row of the predecessor of the number n says, of each call of n that the pass knows: it is 0 where the call is behind no
-- task, and else that task, which has a number of its own.
pub record IsAfterRow (limit : ℕ) (v : View) (n found : ℕ) : Type 0 where
  pub few : found ≤ limit
  pub is : (call : Accepted) → Has (IsAccepted n call) v.facts → word_of_task (after_in (Some call)) ≡ found
  pub some : (call : Accepted) (t : ℕ) → Has (IsAccepted n call) v.facts → after_in (Some call) ≡ Some t → 1 ≤ t

-- the state word of a record that waits under the number n
pub record IsWaitingWord (n word : ℕ) : Type 0 where
  pub shaped : IsStateWord word
  pub waits : phase_of word ≡ 2
  pub number_is : number_of word ≡ n

-- the same word but for its phase, which is that of a record that is ready
abbrev pub ready_word : ℕ → ℕ
ready_word word = state_word 3 (priority_of word) (tag_of word) (number_of word)
