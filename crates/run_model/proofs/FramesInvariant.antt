-- What a run of a valid program keeps of frames: each sits where a way leads, holds what the facts of the way say, and what
-- is settled there gave a value, or will have where its live number starts uncut. And what it keeps of aggregates.
use Rattle.std.specs.Prelude.{◌≡◌, ℕ, suc, ◌<◌, ◌≤◌, ◌⊎◌, Bool, true, false, cond, Option, Some, None, IsSome, IsTrue, List, length, slice_get}
use Rattle.task_syntax.specs.Facts.{Facts, has, members_of}
use Rattle.task_syntax.specs.Valid.{Way}
use Rattle.task_syntax.specs.declared.program.State.{State}
use Rattle.task_syntax.specs.declared.program.Kind.{Kind}
use Rattle.task_syntax.specs.declared.program.Program.{Program}
use Rattle.task_syntax.specs.declared.value.Value.{Value}
use Rattle.task_meaning.specs.Meant.{future_at}
use Rattle.task_meaning.specs.Frame.{FrameOf, CallOf}
use Rattle.task_meaning.specs.Worths.{OfCall, OfAll}
use Rattle.frame_code.specs.Words.{OfKind, OfMembers}
use Rattle.record_core.specs.Numbers.{by_number, found}
use Rattle.record_core.specs.declared.rows.ActivationRow.{ActivationRow}
use Rattle.run_model.specs.State.{Body, Gave, Run}
use Rattle.run_model.proofs.NumbersInvariant.{IsLive}

-- the task gave a value
abbrev pub IsGiven : Run → ℕ → Type 0
IsGiven r u = (v : Value) × (found r.outcomes u ≡ Some (Gave v))

-- the task gave a value, or it will have where the activation behind this task starts uncut: it is that task, or a member of it
abbrev pub WillGive : Run → Option ℕ → ℕ → Type 0
WillGive r after u =
    IsGiven r u
    ⊎ ((after ≡ Some u)
    ⊎ ((a : ℕ) × (members : List ℕ) × (after ≡ Some a) × (by_number r.calls a ≡ Some (OfAll members)) × IsTrue (has u members)))

-- the frame sits at the end of a way, with the futures that the facts there speak of
pub record IsSeated (p : Program) (r : Run) (after : Option ℕ) (started : Bool) (q : FrameOf ℕ) : Type 0 where
  pub kind : Kind
  pub state : State
  pub facts : Facts
  pub is_kind : slice_get p.kinds q.kind ≡ Some kind
  pub is_state : slice_get kind.states q.state ≡ Some state
  pub way : Way state q.at facts
  pub within : q.at < length state.code
  pub numbers : length q.numbers ≡ length kind.variables
  pub futures : length q.futures ≡ length kind.variables
  pub held : (x : ℕ) → IsTrue (has x facts.held) → IsSome (future_at q.futures x)
  pub settled : (x u : ℕ) → IsTrue (has x facts.settled) → future_at q.futures x ≡ Some u → cond started (IsGiven r u) (WillGive r after u)
  pub members : (g x a u : ℕ) → IsTrue (has x (members_of g facts.members)) → future_at q.futures g ≡ Some a → future_at q.futures x ≡ Some u
      → (listed : List ℕ) × (by_number r.calls a ≡ Some (OfAll listed)) × IsTrue (has u listed)

abbrev pub has_started : ActivationRow → Bool
has_started row = elim row.start [ None ↦ false | Some s ↦ true ]

pub record FramesStand (p : Program) (r : Run) : Type 0 where
  -- the frame of a task that is under way is seated, and of the kind of its call
  pub seated : (t n : ℕ) (row : ActivationRow) (q : FrameOf ℕ) → IsLive r t n row → found r.bodies t ≡ Some (OfKind q) → IsSeated p r row.after (has_started row) q
  pub of_call : (t : ℕ) (q : FrameOf ℕ) → found r.bodies t ≡ Some (OfKind q)
      → (call : CallOf ℕ) × (waits : Option ℕ) × (by_number r.calls t ≡ Some (OfCall call waits)) × (q.kind ≡ call.kind)
  -- an aggregate under way has the members of its call, and the next of them is one of them, or the end
  pub gathers : (t next : ℕ) (members : List ℕ) → found r.bodies t ≡ Some (OfMembers members next) → by_number r.calls t ≡ Some (OfAll members)
  pub gathered : (t : ℕ) (members : List ℕ) (body : Body) → by_number r.calls t ≡ Some (OfAll members) → found r.bodies t ≡ Some body
      → (next : ℕ) × (body ≡ OfMembers members next) × (1 ≤ next) × (next ≤ length members)
  -- its live number is behind the member before the next one, and those before that one gave values
  pub at : (t n next : ℕ) (row : ActivationRow) (members : List ℕ) → IsLive r t n row → found r.bodies t ≡ Some (OfMembers members next)
      → (before : ℕ) × (next ≡ suc before) × (row.after ≡ slice_get members before)
  pub before : (t next at u : ℕ) (members : List ℕ) → found r.bodies t ≡ Some (OfMembers members next) → suc at < next → slice_get members at ≡ Some u → IsGiven r u
  -- an aggregate that gave a value has members that all gave values
  pub complete : (t at u : ℕ) (v : Value) (members : List ℕ) → by_number r.calls t ≡ Some (OfAll members) → found r.outcomes t ≡ Some (Gave v)
      → slice_get members at ≡ Some u → IsGiven r u
  -- what runs is behind none, or behind a task that gave a value
  pub runs_behind : (n u : ℕ) (row : ActivationRow) → r.running ≡ Some n → by_number r.journal.rows n ≡ Some row → row.after ≡ Some u → IsGiven r u
