-- A run of a task to its end, act by act, with all that begins on the way.
use Rattle.std.specs.Prelude.{◌≡◌, ℕ, suc, Option, Some, None, List, [], ◌∷◌, ◌++◌, length, replicate}
use Rattle.task_syntax.specs.Places.{Each}
use Rattle.task_syntax.specs.declared.value.Value.{Value}
use Rattle.task_syntax.specs.declared.value.Value.TheVariants.{Number, Trapped}
use Rattle.task_syntax.specs.declared.program.Program.{Program}
use Rattle.task_syntax.specs.declared.columns.Columns.{Columns}
use Rattle.task_meaning.specs.Meant.{Counts, future_at}
use Rattle.task_meaning.specs.Frame.{Place, Call, entry, enter, set_number, set_future}
use Rattle.task_meaning.specs.Acts.{Steps, Calls, Gathers, Reads, Respawns, Finishes, ActsAt}

-- a task begins, or an activation starts
pub data Event : Type 0 where
  Begins : Event
  Starts : Event

abbrev pub tasks_in : List Event → ℕ
tasks_in [] = 0
tasks_in (Begins ∷ events) = suc (tasks_in events)
tasks_in (Starts ∷ events) = tasks_in events

abbrev pub activations_in : List Event → ℕ
activations_in [] = 0
activations_in (Begins ∷ events) = activations_in events
activations_in (Starts ∷ events) = suc (activations_in events)

-- how many tasks begin and how many activations start
abbrev pub counts_of : List Event → Counts
counts_of events = record { tasks = tasks_in events; activations = activations_in events }

-- the future has a value
abbrev pub HasValue : List (Option Value) → ℕ → Type 0
HasValue futures x = (v : Value) × (future_at futures x ≡ Some v)

-- what is waited for, if anything is, has a value
abbrev pub IsReady : List (Option Value) → Option ℕ → Type 0
IsReady futures None = Unit {0}
IsReady futures (Some x) = HasValue futures x

abbrev pub IsTrap : Value → Type 0
IsTrap (Number n) = ⊥
IsTrap (Trapped t) = Unit {0}

-- the events of a call whose task then does the given ones
abbrev pub called : List Event → List Event
called events = Begins ∷ Starts ∷ events

-- the events of an aggregate
abbrev pub gathered : ℕ → List Event
gathered members = Begins ∷ replicate members Starts

-- From the place the task runs to its end with this value, and these events happen on the way.
pub data Runs (p : Program) (c : Columns) : Place → Value → List Event → Type 0 where
  finishes : {q : Place} {v : Value} → ActsAt p c q (Finishes v) → Runs p c q v []
  steps : {q : Place} {v : Value} {events : List Event} (next : Place)
      → ActsAt p c q (Steps next) → Runs p c next v events → Runs p c q v events
  calls : {q : Place} {v : Value} {events : List Event} (to : ℕ) (call : Call) (waits : Option ℕ) (w : Value) (below : List Event)
      → ActsAt p c q (Calls to call waits) → IsReady q.futures waits
      → Runs p c (entry p call) w below → Runs p c (set_future q to (Some w)) v events → Runs p c q v (called below ++ events)
  gathers : {q : Place} {v : Value} {events : List Event} (to : ℕ) (members : List ℕ)
      → ActsAt p c q (Gathers to members) → Each members (HasValue q.futures)
      → Runs p c (set_future q to (Some (Number 0))) v events → Runs p c q v (gathered (length members) ++ events)
  reads : {q : Place} {v : Value} {events : List Event} (to x n : ℕ)
      → ActsAt p c q (Reads to x) → future_at q.futures x ≡ Some (Number n)
      → Runs p c (set_number q to n) v events → Runs p c q v events
  reads_trap : {q : Place} {v : Value} (to x : ℕ)
      → ActsAt p c q (Reads to x) → future_at q.futures x ≡ Some v → IsTrap v → Runs p c q v []
  respawns : {q : Place} {v : Value} {events : List Event} (target : ℕ) (waits : Option ℕ)
      → ActsAt p c q (Respawns target waits) → IsReady q.futures waits
      → Runs p c (enter p q target) v events → Runs p c q v (Starts ∷ events)
