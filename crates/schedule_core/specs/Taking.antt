-- What a take needs and tells.
use Rattle.std.specs.Prelude.{◌≡◌, ◌≢◌, ℕ, ◌+◌, ◌^◌, ◌<◌, ◌≤◌, ◌⊎◌, List, ◌++◌, length, Option, Some, None, slice_index}
use Rattle.std.specs.declared.result.Result.{Result}
use Rattle.std.specs.declared.result.Result.TheVariants.{Ok, Err}
use Rattle.record_core.specs.Counting.{Has}
use Rattle.kt_words.specs.StateWords.{FitsStateWord, packed_state}
use Rattle.kt_words.specs.declared.phase.Phase.TheVariants.{Ready}
use Rattle.kt_words.specs.declared.state_word.StateWord.{StateWord}
use Rattle.task_syntax.specs.declared.value.Priority.{Priority}
use Rattle.task_meaning.specs.Worths.{Accepted}
use Rattle.ready_queues.specs.Moments.{Moment, TellsTake}
use Rattle.ready_queues.specs.declared.entry.Entry.{Entry}
use Rattle.frame_code.specs.Units.{named_in}
use Rattle.table_core.specs.Addresses.{Addr, state, sum, units_of}
use Rattle.table_core.specs.Story.{Fact}
use Rattle.table_core.specs.declared.setup.Setup.{Setup}
use Rattle.table_core.specs.declared.view.View.{View}
use Rattle.schedule_rule.specs.Calls.{task_in, after_in}
use Rattle.schedule_rule.specs.Frames.{front, BagSound}
use Rattle.schedule_rule.specs.LifeViews.{knowing, MayStart}
use Rattle.schedule_rule.specs.SoundViews.{SoundView}
use Rattle.schedule_rule.specs.TakingViews.{took, IsTakenFrame}
use Rattle.step_table.specs.declared.record_tokens.Started.{Started}
use Rattle.schedule_core.specs.Entries.{word_of, entry_of}
use Rattle.schedule_core.specs.References.{Grows}
use Rattle.schedule_core.specs.Runs.{IsInStep, HasNoNumber}
use Rattle.schedule_core.specs.declared.answers.Taken.{Taken}
use Rattle.schedule_core.specs.declared.answers.Taken.TheVariants as taken
use Rattle.schedule_core.specs.declared.running.Running.{Running}

-- What the exchange told, of the view before it and now: the record is a run of the pass, with the words that stand in its block.
pub record TookRecord (g : Setup) (started : Started) (old new : View) : Type 0 where
  pub class : ℕ
  pub words : List ℕ
  pub call : Accepted
  pub more : List Fact
  pub frame_is : IsTakenFrame g started.unit class call words
  pub seen : Grows old.seen new.seen
  pub view_is : new ≡ record (knowing more (took g.checked started.unit class started.number words call old)) { seen = new.seen }
  pub start : MayStart new started.number
  pub bag : BagSound g.checked (record { futures = old.futures; runs = old.runs })
  pub sound : SoundView g new

-- The record at the unit was ready under the number, with this priority, and is a run of the pass: it has the call of the number, the task and the
-- predecessor of that call, and the frame that stands in the record's block. The pass had not taken the number before.
pub record TakesRun (g : Setup) (unit number : ℕ) (priority : Priority) (old : View) (x : Running) (new : View) : Type 0 where
  pub class : ℕ
  pub words : List ℕ
  pub call : Accepted
  pub more : List Fact
  pub frame_is : IsTakenFrame g unit class call words
  pub unit_is : x.started.unit ≡ unit
  pub number_is : x.started.number ≡ number
  pub task_is : x.task ≡ task_in (Some call) number
  pub after_is : x.after ≡ after_in (Some call)
  pub priority_is : x.priority ≡ priority
  pub refused_is : x.refused ≡ None
  pub made_is : x.made ≡ None
  pub is_front : x.frame.items ≡ front g.checked (slice_index words)
  pub untaken : HasNoNumber number old
  pub sights : Grows old.sights new.sights
  pub seen : Grows old.seen new.seen
  pub view_is : new ≡ record (knowing more (took g.checked unit class number words call old)) { sights = new.sights; seen = new.seen }
  pub start : MayStart new number
  pub in_step : IsInStep g x new

-- the value is the run that was taken, whatever the view was before
abbrev pub RunsTaken : Setup → Started → Priority → View → Running → View → Type 0
RunsTaken g started priority v x new = (before : View) → TookRecord g started before v → TakesRun g started.unit started.number priority before x new

-- The state word that was found at a unit of the table is not that of a record that is ready as the entry says. Outside the table none
-- is read, and the word is that of a unit in no use.
pub record Passes (g : Setup) (entry : Entry) (old : View) (found : StateWord) (new : View) : Type 0 where
  pub fits : FitsStateWord found
  pub other : entry.unit < units_of g.plan → found ≢ word_of entry
  pub sights : Grows old.sights new.sights
  pub steps : List (Addr × ℕ)
  pub since : new.seen ≡ steps ++ old.seen
  pub saw : entry.unit < units_of g.plan → Has (state entry.unit, packed_state found) steps
  pub outside : units_of g.plan ≤ entry.unit → packed_state found ≡ 0
  pub view_is : new ≡ record old { sights = new.sights; seen = new.seen }

-- how many references a pass counts that had so many before
abbrev pub held_with : Setup → ℕ → Option Running → ℕ
held_with g held None = held
held_with g held (Some x) = held + length (named_in g.checked x.frame.items)

abbrev pub run_taken : Taken → Option Running
run_taken (taken.Task x) = Some x
run_taken (taken.Passed entry found) = None
run_taken taken.Empty = None

abbrev pub run_of : Result Running StateWord → Option Running
run_of (Ok x) = Some x
run_of (Err found) = None

abbrev pub TakesEntry : Setup → Entry → View → Result Running StateWord → View → Type 0
TakesEntry g entry old (Ok x) new = TakesRun g entry.unit entry.number entry.priority old x new
TakesEntry g entry old (Err found) new = Passes g entry old found new

-- a step found a queue to have been full before
abbrev pub SawSpill : View → View → Type 0
SawSpill old new = (steps : List (Addr × ℕ)) × (found : ℕ) × (new.seen ≡ steps ++ old.seen) × Has (sum 4, found) steps × (found ≢ 0)

-- a step found that none was
abbrev pub SawNoSpill : View → View → Type 0
SawNoSpill old new = (steps : List (Addr × ℕ)) × (new.seen ≡ steps ++ old.seen) × Has (sum 4, 0) steps

-- each record was seen not to be ready
abbrev pub SawNoneReady : Setup → View → View → Type 0
SawNoneReady g old new = (u : ℕ) → u < units_of g.plan → (steps : List (Addr × ℕ)) × (word : StateWord) × (new.seen ≡ steps ++ old.seen) × Has (state u, packed_state word) steps × (word.phase ≢ Ready)

-- the record of the entry was seen to be ready as it says
abbrev pub SawReady : Entry → View → View → Type 0
SawReady entry old new = (steps : List (Addr × ℕ)) × (word : StateWord) × (new.seen ≡ steps ++ old.seen) × Has (state entry.unit, packed_state word) steps × (word.phase ≡ Ready) × FitsStateWord word
    × (entry_of entry.unit word ≡ entry)

-- the record was taken just now, by a pass that counted so many references before
pub record HasTaken (g : Setup) (started : Started) (held : ℕ) (v : View) : Type 0 where
  pub before : View
  pub told : TookRecord g started before v
  pub counted : length before.futures ≤ held
  pub few : held < 2 ^ 32

-- What a sweep tells: a record that it saw ready was taken, or was not ready any more; or it saw none.
abbrev pub Sweeps : Setup → View → Taken → View → Type 0
Sweeps g old (taken.Task x) new = (entry : Entry) × SawReady entry old new × TakesRun g entry.unit entry.number entry.priority old x new
Sweeps g old (taken.Passed entry found) new = SawReady entry old new × Passes g entry old found new
Sweeps g old taken.Empty new = SawNoneReady g old new × Grows old.sights new.sights × (new ≡ record old { sights = new.sights; seen = new.seen })

-- and where no queue was told to have been full, there was none
abbrev pub TakesSpilled : Setup → View → Taken → View → Type 0
TakesSpilled g old (taken.Task x) new = SawSpill old new × Sweeps g old (taken.Task x) new
TakesSpilled g old (taken.Passed entry found) new = SawSpill old new × Sweeps g old (taken.Passed entry found) new
TakesSpilled g old taken.Empty new = (SawNoSpill old new ⊎ SawNoneReady g old new) × Grows old.sights new.sights × (new ≡ record old { sights = new.sights; seen = new.seen })

-- What a take tells, of a store with so many lanes, whose pass had the number `begun` before and tells of these moments: the record of an
-- entry that was the front of its queue; or the queues were empty, and what the spilled entries name.
module _ (g : Setup) (lanes begun : ℕ) (saw : Moment → Type 0) (old : View) where
  abbrev pub Takes : Taken → View → Type 0
  Takes (taken.Task x) new = ((entry : Entry) × TellsTake lanes begun saw (Some entry) × TakesRun g entry.unit entry.number entry.priority old x new)
      ⊎ (TellsTake lanes begun saw None × TakesSpilled g old (taken.Task x) new)
  Takes (taken.Passed entry found) new = (TellsTake lanes begun saw (Some entry) × Passes g entry old found new)
      ⊎ (TellsTake lanes begun saw None × TakesSpilled g old (taken.Passed entry found) new)
  Takes taken.Empty new = TellsTake lanes begun saw None × TakesSpilled g old taken.Empty new
