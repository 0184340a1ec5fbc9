-- What the steps need and tell that place a number: it goes into the state word of a record that waits from then on, or is ready.
use Rattle.std.specs.Prelude.{◌≡◌, ℕ, ◌^◌, ◌<◌, ◌≤◌, Bool, cond, List, slice_index}
use Rattle.kt_words.specs.declared.phase.Phase.TheVariants.{Waiting, Ready}
use Rattle.kt_words.specs.declared.state_word.StateWord.{StateWord}
use Rattle.kt_words.specs.declared.tag.Tag.TheVariants.{Unset}
use Rattle.kt_words.specs.StateWords.{packed_state}
use Rattle.task_syntax.specs.declared.program.Program.{Program}
use Rattle.task_syntax.specs.declared.value.Priority.{Priority}
use Rattle.task_syntax.specs.declared.value.Priority.TheVariants.{High, Regular, Low}
use Rattle.task_meaning.specs.Worths.{Accepted}
use Rattle.frame_code.specs.Names.{named}
use Rattle.table_core.specs.Addresses.{state}
use Rattle.table_core.specs.Asking.{Drawn, OfRoot, OfTask}
use Rattle.table_core.specs.Holdings.{Made as MadeOf, Run, Placing}
use Rattle.table_core.specs.Views.{saw}
use Rattle.table_core.specs.declared.setup.Setup.{Setup}
use Rattle.table_core.specs.declared.view.View.{View}
use Rattle.table_core.specs.Steps.{placing}
use Rattle.schedule_rule.specs.LifeViews.{IsMovedFrame}
use Rattle.schedule_rule.specs.PlacingLaws.{StillCovers}
use Rattle.schedule_rule.specs.PlacingViews.{with_act_past, placed, placed_again, logged, MayPlace, MayPlaceAgain}
use Rattle.step_table.specs.declared.pass.Pass.{Pass}
use Rattle.step_table.specs.declared.record_tokens.Made.{Made}
use Rattle.step_table.specs.declared.record_tokens.Started.{Started}
use Rattle.step_table.specs.Passes.{view}
use Rattle.step_table.specs.RecordHands.{MadeAt, RunAt}

-- the code of a priority in a state word
abbrev pub priority_code : Priority → ℕ
priority_code High = 0
priority_code Regular = 1
priority_code Low = 2

-- the word of a record that waits, or is ready, with this number
abbrev pub word_placed : Bool → ℕ → Priority → StateWord
word_placed waits number priority = record { phase = cond waits Waiting Ready; priority = priority_code priority; tag = Unset; number = number }

-- the record at the unit waits, or is ready, with this number, priority and frame
abbrev pub placing_of : Bool → ℕ → ℕ → Priority → List ℕ → Placing
placing_of waits unit number priority words = placing unit (packed_state (word_placed waits number priority)) words

-- who asked for the number of a made record: the run at a unit, whose frame has these words once it is past that act, or the root
-- of the turn
pub data PlacedFor : Type 0 where
  ForRun : (unit : ℕ) (past : List ℕ) → PlacedFor
  ForRoot : PlacedFor

-- what the arguments of a placing do not tell: the call of the number, the words of its frame, and who asked
pub record Placement : Type 0 where
  pub call : Accepted
  pub words : List ℕ
  pub asked : PlacedFor

-- the run that asked has one number less to place, and its frame is past the act
abbrev pub runs_past : PlacedFor → List Run → List Run
runs_past (ForRun w past) runs = with_act_past w past runs
runs_past ForRoot runs = runs

-- the view with the number of the made record placed
abbrev pub placed_made : Bool → Program → Made → ℕ → Placement → View → View
placed_made waits p made number x v = placed waits made.unit made.class number (named p (slice_index x.words)) (runs_past x.asked v.runs) v

-- the run at the unit asked, and its frame may be these words then
pub record IsByRun (g : Setup) (d : Drawn) (w : ℕ) (past : List ℕ) (v : View) : Type 0 where
  pub run : Run
  pub at : RunAt g.plan w v run
  pub asker_is : d.asker ≡ OfTask run.task
  pub moved : IsMovedFrame g.checked run.words past

-- the number was drawn for whom the placing says
abbrev pub IsFor : Setup → Drawn → PlacedFor → View → Type 0
IsFor g d (ForRun w past) v = IsByRun g d w past v
IsFor g d ForRoot v = (root : ℕ) × (d.asker ≡ OfRoot root)

-- The number of a made record may be placed: it is drawn and counted in, its rows and its words are written, the frame of whoever asked
-- is past the act afterwards, and the references that are left cover the runs. One that does not wait may start.
pub record MayPlaceMade (g : Setup) (waits : Bool) (made : Made) (number : ℕ) (x : Placement) (pass : Pass) : Type 0 where
  pub room : pass.held < 2 ^ 63
  pub within : number ≤ g.plan.limit
  pub drawn : Drawn
  pub number_is : drawn.number ≡ number
  pub holding : MadeOf
  pub at : MadeAt g.plan made.unit (view pass) holding
  pub class_is : holding.class ≡ made.class
  pub may : MayPlace g.checked (view pass) waits holding drawn x.call x.words
  pub asked : IsFor g drawn x.asked (view pass)
  pub covers : StillCovers g (view pass) (placed_made waits g.checked made number x (view pass))

-- The number is placed with its priority and the frame; the pass has a reference to the record, and those of its frame no more.
pub record PlacesMade (g : Setup) (waits : Bool) (made : Made) (number : ℕ) (priority : Priority) (x : Placement) (old new : Pass) : Type 0 where
  pub found : ℕ
  pub view_is : view new ≡ saw (state made.unit) found (logged (placing_of waits made.unit number priority x.words) (placed_made waits g.checked made number x (view old)))

-- the view with the next number of the run placed, and these words in its frame
abbrev pub placed_next : Bool → Program → Run → ℕ → List ℕ → View → View
placed_next waits p run number words v = placed_again waits run.unit run.class run.task number (named p (slice_index words)) v

-- The next number of a run may be placed: the run drew it and has no other to place, its rows are written, the record is known to have
-- these words in its frame, and the references that are left cover the other runs. One that does not wait may start.
pub record MayPlaceNext (g : Setup) (waits : Bool) (started : Started) (number : ℕ) (words : List ℕ) (v : View) : Type 0 where
  pub within : number ≤ g.plan.limit
  pub drawn : Drawn
  pub number_is : drawn.number ≡ number
  pub run : Run
  pub at : RunAt g.plan started.unit v run
  pub may : MayPlaceAgain g.checked v waits run drawn words
  pub covers : StillCovers g v (placed_next waits g.checked run number words v)

-- the number is placed with its priority and the frame, and the run is in the hand no more
pub record PlacesNext (g : Setup) (waits : Bool) (started : Started) (number : ℕ) (words : List ℕ) (priority : Priority) (old new : Pass) : Type 0 where
  pub found : ℕ
  pub view_is : (run : Run) → RunAt g.plan started.unit (view old) run
      → view new ≡ saw (state started.unit) found (logged (placing_of waits started.unit number priority words) (placed_next waits g.checked run number words (view old)))
