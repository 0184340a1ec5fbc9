-- What three queues under a lock hold, and what a pass of such a store tells.
use Rattle.std.specs.Prelude.{◌≡◌, ◌≢◌, ℕ, ◌+◌, ◌-◌, ◌^◌, min, List, [], ◌∷◌, ◌++◌, length, None, IsSomeAnd}
use Rattle.std.specs.VecDeque.{deque_capacity}
use Rattle.task_syntax.specs.declared.value.Priority.{Priority}
use Rattle.task_syntax.specs.declared.value.Priority.TheVariants.{High, Regular, Low}
use Rattle.ready_queues.specs.declared.entry.Entry.{Entry}
use Rattle.ready_queues.specs.declared.entry.Item.{Item}
use Rattle.ready_queues.specs.declared.mutex_ready.Queues.{Queues}
use Rattle.ready_queues.specs.declared.mutex_ready.Look.{Look}
use Rattle.ready_queues.specs.declared.mutex_ready.MutexPass.{MutexPass}
use Rattle.ready_queues.specs.Entries.{item_of, entries_at, IsAbove}
use Rattle.ready_queues.specs.Moments.{Moment}

-- what the queue of a priority holds, oldest first
abbrev pub held : Queues → Priority → List Item
held queues High = queues.high.items
held queues Regular = queues.regular.items
held queues Low = queues.low.items

-- how many items the queue of a priority has room for
abbrev pub room : Queues → Priority → ℕ
room queues High = deque_capacity queues.high
room queues Regular = deque_capacity queues.regular
room queues Low = deque_capacity queues.low

-- the queue of this priority holds these items afterwards, and the others stay; so does the room of each
pub record Becomes (old new : Queues) (priority : Priority) (items : List Item) : Type 0 where
  pub here : held new priority ≡ items
  pub others : (other : Priority) → other ≢ priority → held new other ≡ held old other
  pub rooms : (other : Priority) → room new other ≡ room old other

-- all queues hold what they held
pub record IsSame (old new : Queues) : Type 0 where
  pub all : (priority : Priority) → held new priority ≡ held old priority
  pub rooms : (priority : Priority) → room new priority ≡ room old priority

-- one entry more at the back of the queue of its priority
abbrev pub Gains : Queues → Queues → Entry → Type 0
Gains old new entry = Becomes old new entry.priority (held old entry.priority ++ item_of entry ∷ [])

-- one entry less at the front of the queue of its priority, and each higher queue holds nothing
pub record Loses (old new : Queues) (entry : Entry) : Type 0 where
  pub front : held old entry.priority ≡ item_of entry ∷ held new entry.priority
  pub higher : (priority : Priority) → IsAbove priority entry.priority → held old priority ≡ []
  pub change : Becomes old new entry.priority (held new entry.priority)

-- the queue has no room left, and nothing changes
pub record Refuses (old new : Queues) (priority : Priority) : Type 0 where
  pub full : length (held old priority) ≡ room old priority
  pub same : IsSame old new

-- all queues are empty and stay so
pub record IsDry (old new : Queues) : Type 0 where
  pub empty : (priority : Priority) → held old priority ≡ []
  pub same : IsSame old new

-- the look is at queues that were so and became so
abbrev pub IsLookAt : Queues → Queues → Look → Type 0
IsLookAt old new look = (look.before.value ≡ old) × (look.after.value ≡ new)

-- the pass keeps what the queues were at one moment and what they became, with the next number
pub record Notes (pass now : MutexPass) (old new : Queues) : Type 0 where
  pub look : IsSomeAnd now.last (IsLookAt old new)
  pub number : now.number ≡ min (pass.number + 1) (2 ^ 64 - 1)

-- the pass tells nothing yet
abbrev pub IsFresh : MutexPass → Type 0
IsFresh pass = (pass.number ≡ 0) × (pass.last ≡ None)

-- the moment is one of a queue that was so and became so
abbrev pub IsMomentOf : Moment → Look → Type 0
IsMomentOf m look =
    (m.lane ≡ 0) × (m.capacity ≡ room look.before.value m.priority)
    × (m.before ≡ entries_at m.priority (held look.before.value m.priority))
    × (m.after ≡ entries_at m.priority (held look.after.value m.priority))

-- the pass tells of its last look, and of it the moment of each queue
abbrev pub TellsHeld : MutexPass → Moment → Type 0
TellsHeld pass m = (m.number ≡ pass.number) × IsSomeAnd pass.last (IsMomentOf m)
