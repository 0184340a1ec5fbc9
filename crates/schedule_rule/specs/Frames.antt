-- What the frames of records that wait, are ready or run are frames of, and the references that running frames need.
use Rattle.std.specs.Prelude.{◌≡◌, ℕ, ◌+◌, ◌<◌, ◌≤◌, List, map, true, Option, Some, slice_index}
use Rattle.record_core.specs.Sums.{total}
use Rattle.record_core.specs.Counting.{Has, times}
use Rattle.kt_words.specs.declared.plan.Plan.{Plan}
use Rattle.kt_words.specs.StateWords.{number_of}
use Rattle.task_syntax.specs.Places.{AllDiffer}
use Rattle.task_syntax.specs.Valid.{Held}
use Rattle.task_syntax.specs.declared.program.State.{State}
use Rattle.task_syntax.specs.declared.program.Program.{Program}
use Rattle.task_meaning.specs.Frame.{CallOf, state_at}
use Rattle.task_meaning.specs.Meant.{future_at}
use Rattle.task_meaning.specs.Worths.{Accepted, OfCall, OfAll}
use Rattle.frame_code.specs.Frames.{frame_length, IsFrame}
use Rattle.frame_code.specs.Words.{BodyOf, OfKind, OfMembers, words_from, body_at}
use Rattle.frame_code.specs.Ways.{HasWay}
use Rattle.frame_code.specs.Units.{units_of as units_named}
use Rattle.table_core.specs.Addresses.{units_of}
use Rattle.table_core.specs.References.{is_saved}
use Rattle.table_core.specs.Lists.{Each}
use Rattle.table_core.specs.Holdings.{Run}
use Rattle.schedule_rule.specs.Calls.{AtNumber, task_of, begun}

-- Each future that is held where the frame stands, on each way to there, names a unit. So it can be passed, read or given up by what the
-- words say. An aggregate's frame names all its members.
abbrev pub HoldsNames : Program → BodyOf ℕ → Type 0
HoldsNames p (OfKind q) = (x : ℕ) (state : State) → state_at p q.kind q.state ≡ Some state → Held state q.at x → (unit : ℕ) × (future_at q.futures x ≡ Some unit)
HoldsNames p (OfMembers units next) = Unit {0}

module _ (p : Program) (calls : List Accepted) (tasks : ℕ → ℕ) where
  -- The number's task is a call of the frame's kind, and the frame stands where a way arrives: without one, all futures would
  -- count as held. The task of an aggregate's frame is an aggregate of the members that it names, the next of which is the one
  -- behind that of the number.
  abbrev pub IsFrameOf : ℕ → BodyOf ℕ → Type 0
  IsFrameOf n (OfKind q) = ((call : CallOf ℕ) × (waits : Option ℕ) × AtNumber calls (task_of calls n) (OfCall call waits) × (q.kind ≡ call.kind)) × HasWay p q
  IsFrameOf n (OfMembers units next) = AtNumber calls (task_of calls n) (OfAll (map tasks units)) × (next ≡ begun calls (task_of calls n) n + 1)

  pub record FramedSound (g : Plan) (states : ℕ → ℕ) (words : ℕ → ℕ → ℕ) (vs : List (List Run)) : Type 0 where
    pub saved : (u : ℕ) → u < units_of g → is_saved (states u) ≡ true → IsFrameOf (number_of (states u)) (body_at p (words u))
    -- and what is held there names records
    pub names : (u : ℕ) → u < units_of g → is_saved (states u) ≡ true → HoldsNames p (body_at p (words u))
    pub running : Each (Each (λ (r : Run). IsFrameOf r.number (body_at p (slice_index r.words)))) vs

-- the first words, as many as the frame with their control word has
abbrev pub front : Program → (ℕ → ℕ) → List ℕ
front p words = words_from words 0 (frame_length p (words 0))

-- These are a frame of the program. So a task may go on from the words, and what they name can be read.
abbrev pub IsFormed : Program → (ℕ → ℕ) → Type 0
IsFormed p words = IsFrame p (front p words)

-- The words of records that wait or are ready begin with a frame, and so do those of running records.
pub record FormedSound (p : Program) (g : Plan) (states : ℕ → ℕ) (words : ℕ → ℕ → ℕ) (vs : List (List Run)) : Type 0 where
  pub saved : (u : ℕ) → u < units_of g → is_saved (states u) ≡ true → IsFormed p (words u)
  pub running : Each (Each (λ (r : Run). IsFormed p (slice_index r.words))) vs

-- all futures that are held where the frame stands, on each way to there, are among these variables
abbrev pub HeldAmong : {A : Type 0} → Program → BodyOf A → List ℕ → Type 0
HeldAmong p (OfKind q) variables = (x : ℕ) (state : State) → state_at p q.kind q.state ≡ Some state → Held state q.at x → Has x variables
HeldAmong p (OfMembers units next) variables = Unit {0}

-- these are some variables of a running frame, each once, with all that are held
abbrev pub Covers : Program → Run → List ℕ → Type 0
Covers p r variables = AllDiffer variables × HeldAmong p (body_at p (slice_index r.words)) variables

-- the units that these variables name; an aggregate needs all its members
abbrev pub needed : BodyOf ℕ → List ℕ → List ℕ
needed (OfKind q) variables = units_named (OfKind q) variables
needed (OfMembers units next) variables = units

-- the references of a pass, and its running records
pub record Bagged : Type 0 where
  pub futures : List ℕ
  pub runs : List Run

-- The pass has a reference for each future that is held by a running frame of its hand.
pub record BagSound (p : Program) (v : Bagged) : Type 0 where
  pub pairs : List (Run × List ℕ)
  pub are_runs : map (λ (x : Run × List ℕ). x.0) pairs ≡ v.runs
  pub covers : Each (λ (x : Run × List ℕ). Covers p x.0 x.1) pairs
  pub enough : (u : ℕ) → total (λ (x : Run × List ℕ). times u (needed (body_at p (slice_index x.0.words)) x.1)) pairs ≤ times u v.futures
