-- What the steps do to a view that place a number: it goes from the hand into the state word of a record that waits from then on, or is
-- ready.
use Rattle.std.specs.Prelude.{◌≡◌, ℕ, ◌+◌, ◌-◌, ◌<◌, ◌≤◌, ◌==◌, Bool, true, false, cond, Option, Some, None, List, [], ◌∷◌, length, map, slice_index}
use Rattle.record_core.specs.Counting.{At, Has, times, dropped}
use Rattle.kt_words.specs.Capacity.{block_units}
use Rattle.kt_words.specs.StateWords.{IsStateWord, phase_of, number_of}
use Rattle.task_syntax.specs.declared.program.Program.{Program}
use Rattle.task_meaning.specs.Frame.{FrameOf, CallOf, entry}
use Rattle.task_meaning.specs.Worths.{Accepted, OfCall, OfAll, Respawn}
use Rattle.frame_code.specs.Frames.{IsFrame}
use Rattle.frame_code.specs.Names.{named}
use Rattle.frame_code.specs.Ways.{HasWay}
use Rattle.frame_code.specs.Words.{BodyOf, OfKind, OfMembers, body_at}
use Rattle.table_core.specs.Addresses.{refs, head, task, frame}
use Rattle.table_core.specs.Asking.{Drawn}
use Rattle.table_core.specs.Holdings.{Made, Waiter, Run, Placing, Sight, SawTask, seen_at}
use Rattle.table_core.specs.Own.{known_in}
use Rattle.table_core.specs.RecordViews.{is_at, is_made_at, forget_words}
use Rattle.table_core.specs.Story.{IsAccepted}
use Rattle.table_core.specs.WaitViews.{is_run_at, new_waiter}
use Rattle.table_core.specs.declared.view.View.{View}
use Rattle.schedule_rule.specs.DrawViews.{changed}
use Rattle.schedule_rule.specs.Frames.{HoldsNames}
use Rattle.schedule_rule.specs.LifeViews.{MayStart, answers_left}

-- the list without one of each of these numbers
abbrev pub less : List ℕ → List ℕ → List ℕ
less l [] = l
less l (x ∷ xs) = less (dropped (is_at x) l) xs

-- what was seen of records to which a reference is left
abbrev pub kept_sights : List ℕ → List Sight → List Sight
kept_sights futures [] = []
kept_sights futures (s ∷ ss) = cond (times (seen_at s) futures == 0) (kept_sights futures ss) (s ∷ kept_sights futures ss)

abbrev pub is_drawn : ℕ → Drawn → Bool
is_drawn n d = d.number == n

-- a record that waits is a waiter in the hand; one that is ready is in no hand
abbrev pub waiting_with : Bool → ℕ → ℕ → List Waiter → List Waiter
waiting_with waits u n waiting = cond waits (new_waiter u n ∷ waiting) waiting

-- the run that asked for the number has one less to place, and its frame, with these words, is past the act
abbrev pub past_act : List ℕ → Run → Run
past_act words r = record r { unplaced = r.unplaced - 1; words = words }

abbrev pub with_act_past : ℕ → List ℕ → List Run → List Run
with_act_past w words = changed (is_run_at w) (past_act words)

-- the references that are left where a frame takes these, and there is one more to the record at u
abbrev pub futures_with : ℕ → List ℕ → List ℕ → List ℕ
futures_with u taken futures = u ∷ less futures taken

-- The made record at u, of class c, waits or is ready with the number n, and these are the hand's runs now. Its frame takes the
-- references of these units; the hand has one to it, and has seen its task.
abbrev pub placed : Bool → ℕ → ℕ → ℕ → List ℕ → List Run → View → View
placed waits u c n taken runs v = record v {
  made = dropped (is_made_at u) v.made;
  waiting = waiting_with waits u n v.waiting;
  runs = runs;
  known = forget_words u (block_units c) v.known;
  futures = futures_with u taken v.futures;
  sights = SawTask u n ∷ kept_sights (futures_with u taken v.futures) v.sights;
  drawn = dropped (is_drawn n) v.drawn;
}

-- by an act of the run at w, whose frame has these words then
abbrev pub placed_for_run : Bool → ℕ → ℕ → ℕ → List ℕ → ℕ → List ℕ → View → View
placed_for_run waits u c n taken w words v = placed waits u c n taken (with_act_past w words v.runs) v

-- for the root of the turn
abbrev pub placed_for_root : Bool → ℕ → ℕ → ℕ → List ℕ → View → View
placed_for_root waits u c n taken v = placed waits u c n taken v.runs v

-- The running record at u, of class c and task t, waits or is ready with its next number n. Its frame takes the references of these
-- units; what was answered to its task is of no use any more.
abbrev pub placed_again : Bool → ℕ → ℕ → ℕ → ℕ → List ℕ → View → View
placed_again waits u c t n taken v = record v {
  runs = dropped (is_run_at u) v.runs;
  waiting = waiting_with waits u n v.waiting;
  known = forget_words u (block_units c) v.known;
  futures = less v.futures taken;
  sights = kept_sights (less v.futures taken) v.sights;
  drawn = dropped (is_drawn n) v.drawn;
  answers = answers_left t v.answers;
}

-- the hand keeps what it placed
abbrev pub logged : Placing → View → View
logged x v = record v { placings = x ∷ v.placings }

-- the phase of a record that waits, or is ready
abbrev pub phase_placed : Bool → ℕ
phase_placed waits = cond waits 2 3

-- the word says that the record waits, or is ready, with the number
pub record IsPlacedWord (waits : Bool) (number word : ℕ) : Type 0 where
  pub phase : phase_of word ≡ phase_placed waits
  pub number_is : number_of word ≡ number
  pub shape : IsStateWord word

-- The number d is drawn and its rows are written. The words are a frame of the program, which the record at u is known to have, and
-- the hand has a reference for each unit that they name. Each future that is held where the frame stands names one.
pub record IsPlaceable (p : Program) (v : View) (u : ℕ) (d : Drawn) (words : List ℕ) : Type 0 where
  pub drawn : Has d v.drawn
  pub task_row : times d.number v.no_task ≡ 0
  pub after_row : times d.number v.no_after ≡ 0
  pub is_frame : IsFrame p words
  pub known : (j : ℕ) → j < length words → known_in (frame u j) v.known ≡ Some (slice_index words j)
  pub held : (w : ℕ) → times w (named p (slice_index words)) ≤ times w v.futures
  pub names : HoldsNames p (body_at p (slice_index words))

-- this unit, where there is one, was seen to be of this task; where there is no task, there is no unit
abbrev pub WasSeenAs : View → Option ℕ → Option ℕ → Type 0
WasSeenAs v (Some u) (Some t) = Has (SawTask u t) v.sights
WasSeenAs v (Some u) None = ⊥
WasSeenAs v None (Some t) = ⊥
WasSeenAs v None None = Unit {0}

-- these units were seen to be of these tasks, one after the other
pub record WereSeenAs (v : View) (units tasks : List (Option ℕ)) : Type 0 where
  pub length_is : length units ≡ length tasks
  pub each : (k : ℕ) (unit task : Option ℕ) → At units k unit → At tasks k task → WasSeenAs v unit task

-- a frame is the first one of a kind, with what is passed in the call; the units that it names were seen to be of the call's tasks
pub record IsFirstOfCall (p : Program) (v : View) (call : CallOf ℕ) (q : FrameOf ℕ) : Type 0 where
  pub passed : CallOf ℕ
  pub kind : passed.kind ≡ call.kind
  pub numbers : passed.numbers ≡ call.numbers
  pub futures : WereSeenAs v passed.futures call.futures
  pub is : q ≡ entry p passed
  pub way : HasWay p q

-- A frame is the first one of a call. An aggregate's has the members of the call, the first of which it is behind.
abbrev pub IsFirstFrame : Program → View → Accepted → BodyOf ℕ → Type 0
IsFirstFrame p v (OfCall call waits) (OfKind q) = IsFirstOfCall p v call q
IsFirstFrame p v (OfAll members) (OfMembers units next) = WereSeenAs v (map Some units) (map Some members) × (next ≡ 1)
IsFirstFrame p v (OfCall call waits) (OfMembers units next) = ⊥
IsFirstFrame p v (OfAll members) (OfKind q) = ⊥
IsFirstFrame p v (Respawn t waits) body = ⊥

-- what does not wait may start
abbrev pub MayStartUnless : Bool → View → ℕ → Type 0
MayStartUnless true v n = Unit {0}
MayStartUnless false v n = MayStart v n

-- The made record r is counted in and has the number d. It is known to have two references, an open and empty list, its task and the
-- first frame of its call.
pub record MayPlace (p : Program) (v : View) (waits : Bool) (r : Made) (d : Drawn) (call : Accepted) (words : List ℕ) : Type 0 where
  pub has : Has r v.made
  pub numbered : r.number ≡ d.number
  pub counted : r.live ≡ true
  pub placeable : IsPlaceable p v r.unit d words
  pub references_known : known_in (refs r.unit) v.known ≡ Some 2
  pub head_known : known_in (head r.unit) v.known ≡ Some 0
  pub task_known : known_in (task r.unit) v.known ≡ Some d.number
  pub accepted : Has (IsAccepted d.number call) v.facts
  pub first : IsFirstFrame p v call (body_at p (slice_index words))
  pub starts : MayStartUnless waits v d.number

-- A frame is that of a task's next activation: of the same kind, where there is a way to its line; an aggregate's has the same members,
-- and is behind the next one.
abbrev pub IsNextFrame : Program → BodyOf ℕ → BodyOf ℕ → Type 0
IsNextFrame p (OfKind q) (OfKind next) = (next.kind ≡ q.kind) × HasWay p next
IsNextFrame p (OfMembers units at) (OfMembers same next) = (same ≡ units) × (next ≡ at + 1)
IsNextFrame p (OfKind q) (OfMembers units next) = ⊥
IsNextFrame p (OfMembers units at) (OfKind q) = ⊥

-- The run r drew the number d for itself and has no other to place. Its record is known to have the frame of its next activation.
pub record MayPlaceAgain (p : Program) (v : View) (waits : Bool) (r : Run) (d : Drawn) (words : List ℕ) : Type 0 where
  pub has : Has r v.runs
  pub its : d.unit ≡ r.unit
  pub last : r.unplaced ≡ 1
  pub placeable : IsPlaceable p v r.unit d words
  pub next : IsNextFrame p (body_at p (slice_index r.words)) (body_at p (slice_index words))
  pub starts : MayStartUnless waits v d.number
