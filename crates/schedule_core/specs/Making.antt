-- What is needed to place a new record with its first frame, and what that leaves.
use Rattle.std.specs.Prelude.{◌≡◌, ◌≢◌, ℕ, ◌+◌, ◌*◌, ◌≤◌, ◌⊎◌, Bool, false, true, Option, Some, None, List, ◌∷◌, ◌++◌, length, slice_index}
use Rattle.record_core.specs.Counting.{Has, times, dropped}
use Rattle.kt_words.specs.Capacity.{block_units}
use Rattle.kt_words.specs.HeadWords.{closed_word}
use Rattle.kt_words.specs.StateWords.{priority_of}
use Rattle.task_syntax.specs.declared.program.Program.{Program}
use Rattle.task_syntax.specs.declared.value.Priority.{Priority}
use Rattle.task_meaning.specs.Worths.{Accepted}
use Rattle.ready_queues.specs.declared.entry.Entry.{Entry}
use Rattle.frame_code.specs.Frames.{IsFrame}
use Rattle.frame_code.specs.Names.{named}
use Rattle.frame_code.specs.Words.{body_at}
use Rattle.kt_words.specs.declared.plan.Plan.{Plan}
use Rattle.table_core.specs.Addresses.{Addr, state, refs, head, task, sum}
use Rattle.table_core.specs.Asking.{Drawn}
use Rattle.table_core.specs.Holdings.{Made as MadeOf, Waiter, Sight, SawTask, seen_at}
use Rattle.table_core.specs.Own.{known_in}
use Rattle.table_core.specs.RecordViews.{is_at, is_made_at}
use Rattle.table_core.specs.WaitViews.{is_waiter_at}
use Rattle.table_core.specs.Story.{IsAccepted}
use Rattle.table_core.specs.declared.setup.Setup.{Setup}
use Rattle.table_core.specs.declared.view.View.{View}
use Rattle.schedule_rule.specs.Calls.{task_in, after_in}
use Rattle.schedule_rule.specs.DrawViews.{changed}
use Rattle.schedule_rule.specs.Frames.{HoldsNames, BagSound}
use Rattle.schedule_rule.specs.LifeViews.{count_in}
use Rattle.schedule_rule.specs.PlacingViews.{is_drawn, IsFirstFrame}
use Rattle.schedule_rule.specs.SeeingViews.{IsWaitingWord}
use Rattle.schedule_rule.specs.SoundViews.{IsUpTo, SoundView}
use Rattle.step_table.specs.PlacingSteps.{Placement, placing_of, runs_past, IsFor, placed_made, MayPlaceMade}
use Rattle.step_table.specs.Lookups.{waiter_in}
use Rattle.step_table.specs.RecordHands.{MadeAt, HasFuture}
use Rattle.step_table.specs.Passes.{view}
use Rattle.step_table.specs.declared.pass.Pass.{Pass}
use Rattle.step_table.specs.declared.record_tokens.Future.{Future}
use Rattle.step_table.specs.declared.record_tokens.Made.{Made}
use Rattle.schedule_core.specs.Entries.{priority_at}
use Rattle.schedule_core.specs.FrameWords.{KnowsFrame}
use Rattle.schedule_core.specs.References.{Grows, HasEach}
use Rattle.schedule_core.specs.declared.making.Behind.{Behind}

-- the task that a new one is behind, if any
abbrev pub task_behind : Option Behind → Option ℕ
task_behind None = None
task_behind (Some b) = Some b.task

-- a record waits from its placing on where it is behind a task
abbrev pub waits_behind : Option Behind → Bool
waits_behind None = false
waits_behind (Some b) = true

-- the pass has a reference to the record of the predecessor, and saw its task there
abbrev pub KnowsPredecessor : Plan → Option Behind → View → Type 0
KnowsPredecessor g None v = Unit {0}
KnowsPredecessor g (Some b) v = HasFuture g b.unit v × Has (SawTask b.unit b.task) v.sights

-- what is known of a new record: its frame, two references, an open and empty list, and its task
pub record KnowsNew (unit number : ℕ) (words : List ℕ) (v : View) : Type 0 where
  pub frame : KnowsFrame unit words v
  pub references : known_in (refs unit) v.known ≡ Some 2
  pub list : known_in (head unit) v.known ≡ Some 0
  pub its_task : known_in (task unit) v.known ≡ Some number

-- the record at the unit is made by the pass, so its words may be written
abbrev pub MayWriteWords : Plan → ℕ → View → Type 0
MayWriteWords g unit v = (holding : MadeOf) × MadeAt g unit v holding

-- two references, an open and empty list, and the task are written
pub record WritesWords (unit number : ℕ) (old new : View) : Type 0 where
  pub seen : Grows old.seen new.seen
  pub view_is : new ≡ record old { known = (task unit, number) ∷ (head unit, 0) ∷ (refs unit, 2) ∷ old.known; seen = new.seen }

-- A made record has its number and is not counted in. The rows of the number are to be written, and its call is known.
pub record MayWriteRows (g : Plan) (unit number : ℕ) (behind : Option ℕ) (v : View) : Type 0 where
  pub holding : MadeOf
  pub at : MadeAt g unit v holding
  pub numbered : holding.number ≡ number
  pub some : number ≢ 0
  pub uncounted : holding.live ≡ false
  pub inside : number ≤ g.limit
  pub lacks_task : times number v.no_task ≡ 1
  pub lacks_after : times number v.no_after ≡ 1
  pub call : Accepted
  pub accepted : Has (IsAccepted number call) v.facts
  pub is_new : task_in (Some call) number ≡ number
  pub behind_is : behind ≡ after_in (Some call)

-- Besides, its first frame fits into its block, and the pass has a reference for each unit that the frame names.
pub record MayFillNew (g : Setup) (made : Made) (number : ℕ) (behind : Option ℕ) (words : List ℕ) (v : View) : Type 0 where
  pub rows : MayWriteRows g.plan made.unit number behind v
  pub class_is : rows.holding.class ≡ made.class
  pub frame : IsFrame g.checked words
  pub fits : length words ≤ 8 * block_units made.class
  pub held : HasEach g.plan (named g.checked (slice_index words)) v

-- they are written, and the record counts as living
pub record WritesRows (unit number : ℕ) (old new : View) : Type 0 where
  pub seen : Grows old.seen new.seen
  pub view_is : new ≡ record old {
    made = changed (is_made_at unit) count_in old.made;
    no_task = dropped (is_at number) old.no_task;
    no_after = dropped (is_at number) old.no_after;
    seen = new.seen;
  }

-- All words of the new record and both rows are written, the record counts as living, and the pass has a reference for each unit that
-- its frame names beside those that it had.
pub record FillsNew (p : Program) (made : Made) (number : ℕ) (words : List ℕ) (old new : View) : Type 0 where
  pub front : List ℕ
  pub counts : (w : ℕ) → times w front ≡ times w (named p (slice_index words))
  pub knows : KnowsNew made.unit number words new
  pub seen : Grows old.seen new.seen
  pub view_is : new ≡ record old {
    made = changed (is_made_at made.unit) count_in old.made;
    futures = front ++ old.futures;
    no_task = dropped (is_at number) old.no_task;
    no_after = dropped (is_at number) old.no_after;
    known = new.known;
    seen = new.seen;
  }

-- the number may be placed: of a record that waits, or is ready where it is behind no task
abbrev pub MayPlaceNew : Setup → Made → ℕ → Option Behind → Placement → Pass → Type 0
MayPlaceNew g made number None x pass = MayPlaceMade g false made number x pass × (after_in (Some x.call) ≡ None)
MayPlaceNew g made number (Some b) x pass = MayPlaceMade g true made number x pass × (after_in (Some x.call) ≡ Some b.task)
    × HasFuture g.plan b.unit (placed_made true g.checked made number x (view pass)) × Has (SawTask b.unit b.task) (placed_made true g.checked made number x (view pass)).sights

-- the list of the record at u was looked at in these steps, and never found closed
abbrev pub FoundOpen : ℕ → List (Addr × ℕ) → Type 0
FoundOpen u steps = ((word : ℕ) × Has (head u, word) steps) × ¬ Has (head u, closed_word) steps

-- so it was since the number of the record at the unit was placed
pub record StaysOpen (unit u : ℕ) (steps : List (Addr × ℕ)) : Type 0 where
  pub later : List (Addr × ℕ)
  pub before : List (Addr × ℕ)
  pub found : ℕ
  pub parts : steps ≡ later ++ (state unit, found) ∷ before
  pub unclosed : FoundOpen u later

-- The list of the record at u was found closed in these steps. The record at the unit was found to wait there, under the number of the entry
-- and with its priority.
pub record FoundClosed (unit u : ℕ) (e : Entry) (steps : List (Addr × ℕ)) : Type 0 where
  pub closed : Has (head u, closed_word) steps
  pub was : ℕ
  pub saw : Has (state unit, was) steps
  pub waited : IsWaitingWord e.number was
  pub priority_is : e.priority ≡ priority_at (priority_of was)

-- What was placed at the unit is ready, and this is its entry: it is behind no task, and has this priority; or the list of its predecessor
-- was found closed. Without an entry it waits: that list stayed open.
abbrev pub Enters : (unit number : ℕ) → Priority → Option Behind → Option Entry → List (Addr × ℕ) → Type 0
Enters unit number priority behind None steps = (b : Behind) × (behind ≡ Some b) × StaysOpen unit b.unit steps
Enters unit number priority behind (Some e) steps = (e.unit ≡ unit) × (e.number ≡ number)
    × (((behind ≡ None) × (e.priority ≡ priority)) ⊎ ((b : Behind) × (behind ≡ Some b) × FoundClosed unit b.unit e steps))

-- one step found this many numbers drawn, and the number is the next one
abbrev pub FoundDrawn : ℕ → List (Addr × ℕ) → Type 0
FoundDrawn number steps = (found : ℕ) × (number ≡ found + 1) × Has (sum 0, found) steps

-- The next number was drawn in this call, and is placed for the record at the unit.
pub record PlacesNumber (limit unit number : ℕ) (priority : Priority) (behind : Option Behind) (told : Option Entry) (old new : View) : Type 0 where
  pub within : IsUpTo limit number
  pub steps : List (Addr × ℕ)
  pub since : new.seen ≡ steps ++ old.seen
  pub drawn : FoundDrawn number steps
  pub enters : Enters unit number priority behind told steps

-- The entry of the waiter at the unit, under its number: the list of the record at u was found closed. None is given: it never was.
abbrev pub EntersClosed : (unit u : ℕ) → View → Option Entry → List (Addr × ℕ) → Type 0
EntersClosed unit u old None steps = FoundOpen u steps
EntersClosed unit u old (Some e) steps = (e.unit ≡ unit) × ((w : Waiter) → waiter_in unit old.waiting ≡ Some w → e.number ≡ w.number) × FoundClosed unit u e steps

-- The waiter at the unit is in no hand any more: it stands in the list of its predecessor, or this call found that closed, and an entry is
-- given for it, which is ready.
pub record JoinsBehind (g : Setup) (unit : ℕ) (behind : Behind) (old : View) (told : Option Entry) (new : View) : Type 0 where
  pub steps : List (Addr × ℕ)
  pub since : new.seen ≡ steps ++ old.seen
  pub enters : EntersClosed unit behind.unit old told steps
  pub facts : Grows old.facts new.facts
  pub sights : Grows old.sights new.sights
  pub sound : SoundView g new
  pub view_is : new ≡ record old { waiting = dropped (is_waiter_at unit) old.waiting; facts = new.facts; sights = new.sights; tries = new.tries; seen = new.seen }

-- The number is placed with its priority and the frame; the pass has a reference to the record, whose task it saw.
pub record PlacesNew (g : Setup) (made : Made) (number : ℕ) (priority : Priority) (behind : Option Behind) (x : Placement) (old : View) (told : Future × Option Entry) (new : View) : Type 0 where
  pub future_is : told.0.unit ≡ made.unit
  pub steps : List (Addr × ℕ)
  pub since : new.seen ≡ steps ++ old.seen
  pub enters : Enters made.unit number priority behind told.1 steps
  pub facts : Grows old.facts new.facts
  pub sees : Has (SawTask made.unit number) new.sights
  pub kept : (s : Sight) → Has s old.sights → 1 ≤ times (seen_at s) new.futures → Has s new.sights
  pub sound : SoundView g new
  pub view_is : new ≡ record (placed_made false g.checked made number x old) {
    placings = placing_of (waits_behind behind) made.unit number priority x.words ∷ old.placings;
    facts = new.facts;
    sights = new.sights;
    tries = new.tries;
    seen = new.seen;
  }

-- A new record may be placed with its first frame: beside what its words and rows need, the frame is the first one of the call and names
-- what its state holds, the asker is past the act afterwards, and one reference more is enough then.
pub record MayOffer (g : Setup) (made : Made) (number : ℕ) (behind : Option Behind) (words : List ℕ) (x : Placement) (v : View) : Type 0 where
  pub fills : MayFillNew g made number (task_behind behind) words v
  pub words_are : x.words ≡ words
  pub call_is : x.call ≡ fills.rows.call
  pub drawn : Drawn
  pub there : Has drawn v.drawn
  pub number_is : drawn.number ≡ number
  pub first : IsFirstFrame g.checked v x.call (body_at g.checked (slice_index words))
  pub names : HoldsNames g.checked (body_at g.checked (slice_index words))
  pub predecessor : KnowsPredecessor g.plan behind v
  pub asked : IsFor g drawn x.asked v
  pub covers : BagSound g.checked (record { futures = made.unit ∷ v.futures; runs = runs_past x.asked v.runs })

-- The record is placed under its number, with its priority and the frame; the pass has one reference more, to it, and those of its frame
-- are the record's.
pub record Offers (g : Setup) (made : Made) (number : ℕ) (priority : Priority) (behind : Option Behind) (x : Placement) (old : View) (told : Future × Option Entry) (new : View) : Type 0 where
  pub future_is : told.0.unit ≡ made.unit
  pub steps : List (Addr × ℕ)
  pub since : new.seen ≡ steps ++ old.seen
  pub enters : Enters made.unit number priority behind told.1 steps
  pub facts : Grows old.facts new.facts
  pub sees : Has (SawTask made.unit number) new.sights
  pub kept : (s : Sight) → Has s old.sights → 1 ≤ times (seen_at s) new.futures → Has s new.sights
  pub sound : SoundView g new
  pub view_is : new ≡ record old {
    made = dropped (is_made_at made.unit) old.made;
    runs = runs_past x.asked old.runs;
    futures = made.unit ∷ old.futures;
    drawn = dropped (is_drawn number) old.drawn;
    placings = placing_of (waits_behind behind) made.unit number priority x.words ∷ old.placings;
    no_task = dropped (is_at number) old.no_task;
    no_after = dropped (is_at number) old.no_after;
    known = new.known;
    facts = new.facts;
    sights = new.sights;
    tries = new.tries;
    seen = new.seen;
  }
