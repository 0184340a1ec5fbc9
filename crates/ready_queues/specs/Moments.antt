-- What a queue pass tells of its last call: single moments, each of one queue.
use Rattle.std.specs.Prelude.{◌≡◌, ℕ, ◌+◌, ◌-◌, ◌^◌, ◌<◌, ◌≤◌, min, List, [], ◌∷◌, ◌++◌, length, ⊤, Option, Some, None, Result, Ok, Err}
use Rattle.task_syntax.specs.declared.value.Priority.{Priority}
use Rattle.ready_queues.specs.declared.entry.Entry.{Entry}
use Rattle.ready_queues.specs.Entries.{IsAbove}

-- What one queue held at a moment, oldest first, before the step that was made then and after it. A store has queues of
-- each priority, which are numbered from 0 (`lane`), and a queue has a capacity. Moments are numbered too.
pub record Moment : Type 0 where
  pub number : ℕ
  pub priority : Priority
  pub lane : ℕ
  pub capacity : ℕ
  pub before : List Entry
  pub after : List Entry

-- the entry came to the back of the queue of its priority
abbrev pub WasPushed : Entry → Moment → Type 0
WasPushed entry m = (m.priority ≡ entry.priority) × (m.after ≡ m.before ++ entry ∷ [])

-- the entry left the front of the queue of its priority
abbrev pub WasTaken : Entry → Moment → Type 0
WasTaken entry m = (m.priority ≡ entry.priority) × (m.before ≡ entry ∷ m.after)

-- a queue of this priority had no room, and stayed as it was
abbrev pub WasFull : Priority → Moment → Type 0
WasFull priority m = (m.priority ≡ priority) × (length m.before ≡ m.capacity) × (m.after ≡ m.before)

-- this queue held nothing
abbrev pub WasEmpty : Priority → ℕ → Moment → Type 0
WasEmpty priority lane m = (m.priority ≡ priority) × (m.lane ≡ lane) × (m.before ≡ []) × (m.after ≡ [])

-- the number is above the other, or both are the greatest number
abbrev pub Rose : ℕ → ℕ → Type 0
Rose before now = min (before + 1) (2 ^ 64 - 1) ≤ now

-- Of a call that began with the number `begun`, on a store with so many queues of each priority: at a moment that the pass
-- tells of, in one of these queues, the fact held.
abbrev pub InCall : ℕ → ℕ → (Moment → Type 0) → (Moment → Type 0) → Type 0
InCall lanes begun saw fact = (m : Moment) × saw m × Rose begun m.number × (m.lane < lanes) × fact m

-- in this call each queue of such a priority was empty, each at a moment of its own
abbrev pub EachWasEmpty : ℕ → ℕ → (Moment → Type 0) → (Priority → Type 0) → Type 0
EachWasEmpty lanes begun saw which =
    (priority : Priority) (lane : ℕ) → which priority → lane < lanes → InCall lanes begun saw (WasEmpty priority lane)

-- What a push tells. The entry came to the back of the queue of its priority; or it comes back, and that queue was full.
abbrev pub TellsPush : ℕ → ℕ → (Moment → Type 0) → Entry → Result (Unit {0}) Entry → Type 0
TellsPush lanes begun saw entry (Ok _) = InCall lanes begun saw (WasPushed entry)
TellsPush lanes begun saw entry (Err back) = (back ≡ entry) × InCall lanes begun saw (WasFull entry.priority)

-- What a take tells. Every queue was empty; or the entry was the front of its queue, and each queue of a higher priority was empty.
abbrev pub TellsTake : ℕ → ℕ → (Moment → Type 0) → Option Entry → Type 0
TellsTake lanes begun saw None = EachWasEmpty lanes begun saw (λ priority. ⊤)
TellsTake lanes begun saw (Some entry) =
    InCall lanes begun saw (WasTaken entry) × EachWasEmpty lanes begun saw (λ priority. IsAbove priority entry.priority)

-- no moment after this number is told of
abbrev pub IsInTime : ℕ → (Moment → Type 0) → Type 0
IsInTime number saw = (m : Moment) → saw m → m.number ≤ number

-- the two are of one queue at one moment
abbrev pub IsSameLook : Moment → Moment → Type 0
IsSameLook m n = (m.number ≡ n.number) × (m.priority ≡ n.priority) × (m.lane ≡ n.lane)

-- the two hold as many entries
abbrev pub AsMany : Moment → Moment → Type 0
AsMany m n = (length m.before ≡ length n.before) × (length m.after ≡ length n.after)

-- of one queue at one moment one number of entries is told
abbrev pub IsConsistent : (Moment → Type 0) → Type 0
IsConsistent saw = (m : Moment) (n : Moment) → saw m → saw n → IsSameLook m n → AsMany m n
