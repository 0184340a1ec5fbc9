-- What a take tells, of its pass before and after.
use Rattle.std.specs.Prelude.{◌≡◌, ◌≢◌, ℕ, ◌+◌, List}
use Rattle.std.specs.declared.result.Result.{Result}
use Rattle.std.specs.declared.result.Result.TheVariants.{Ok, Err}
use Rattle.kt_words.specs.declared.state_word.StateWord.{StateWord}
use Rattle.kt_words.specs.StateWords.{FitsStateWord, packed_state}
use Rattle.task_meaning.specs.Worths.{Accepted}
use Rattle.table_core.specs.Addresses.{state}
use Rattle.table_core.specs.Story.{Fact}
use Rattle.table_core.specs.Views.{saw}
use Rattle.table_core.specs.declared.setup.Setup.{Setup}
use Rattle.schedule_rule.specs.LifeViews.{knowing, MayStart}
use Rattle.schedule_rule.specs.TakingViews.{took, IsTakenFrame}
use Rattle.step_table.specs.declared.pass.Pass.{Pass}
use Rattle.step_table.specs.declared.record_tokens.Started.{Started}
use Rattle.step_table.specs.Passes.{view}

-- The record was ready with this word, and is a run of the pass, under the number that the word says. The words of its block are
-- known, the references that its frame names are the pass's, and the call of the number is known and may start.
pub record TakesRecord (g : Setup) (u : ℕ) (ready : StateWord) (old : Pass) (started : Started) (new : Pass) : Type 0 where
  pub unit_is : started.unit ≡ u
  pub number_is : started.number ≡ ready.number
  pub class : ℕ
  pub words : List ℕ
  pub call : Accepted
  pub more : List Fact
  pub frame_is : IsTakenFrame g u class call words
  pub view_is : view new ≡ knowing more (saw (state u) (packed_state ready) (took g.checked u class ready.number words call (view old)))
  pub start : MayStart (view new) ready.number

-- the record had another state word, and nothing else has changed
pub record FindsOtherState (u : ℕ) (ready : StateWord) (old : Pass) (word : StateWord) (new : Pass) : Type 0 where
  pub fits : FitsStateWord word
  pub other : word ≢ ready
  pub view_is : view new ≡ saw (state u) (packed_state word) (view old)

abbrev pub TakesReady : Setup → ℕ → StateWord → Pass → Result Started StateWord → Pass → Type 0
TakesReady g u ready old (Ok started) new = TakesRecord g u ready old started new
TakesReady g u ready old (Err word) new = FindsOtherState u ready old word new

-- a taken record's frame names so many units at most, and each may be a reference that the pass has now
abbrev pub held_after : ℕ → Result Started StateWord → ℕ
held_after held (Ok started) = held + 63
held_after held (Err word) = held
