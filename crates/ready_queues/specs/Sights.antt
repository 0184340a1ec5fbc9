-- What a pass of the store without a lock knows of its queues, and what it tells of its last call.
use Rattle.std.specs.Prelude.{◌≡◌, ◌≢◌, ◌⊎◌, ℕ, ◌+◌, ◌-◌, ◌^◌, min, List, []}
use Rattle.crossbeam_queue.specs.Fifo.{Held}
use Rattle.crossbeam_queue.specs.Passes.{view, IsPassOf, ruled_capacity}
use Rattle.task_syntax.specs.declared.value.Priority.{Priority}
use Rattle.task_syntax.specs.declared.value.Priority.TheVariants.{High, Regular, Low}
use Rattle.ready_queues.specs.declared.entry.Entry.{Entry}
use Rattle.ready_queues.specs.declared.entry.Item.{Item}
use Rattle.ready_queues.specs.declared.account.Hand.{Hand}
use Rattle.ready_queues.specs.declared.ruled_ready.Found.{Found}
use Rattle.ready_queues.specs.declared.ruled_ready.Found.TheVariants.{Nothing, Put, Full, Took, Dry}
use Rattle.ready_queues.specs.declared.ruled_ready.RuledReady.{RuledReady}
use Rattle.ready_queues.specs.declared.ruled_ready.RuledPass.{RuledPass}
use Rattle.ready_queues.specs.Account.{Agrees, Pushes, Takes, first_hand}
use Rattle.ready_queues.specs.Entries.{item_of, entries_at, IsAbove}
use Rattle.ready_queues.specs.Moments.{Moment, WasPushed, WasTaken, WasFull}

-- what the pass did at the queue of a priority
abbrev pub hand_of : RuledPass → Priority → Hand
hand_of q High = view q.high
hand_of q Regular = view q.regular
hand_of q Low = view q.low

-- how many items the queue of a priority has room for
abbrev pub room_of : RuledReady → Priority → ℕ
room_of s High = ruled_capacity s.high
room_of s Regular = ruled_capacity s.regular
room_of s Low = ruled_capacity s.low

-- the pass is one of this store
pub record IsPass (s : RuledReady) (q : RuledPass) : Type 0 where
  pub high : IsPassOf s.high q.high
  pub regular : IsPassOf s.regular q.regular
  pub low : IsPassOf s.low q.low

-- the pass is the only one of its store, has done nothing and tells nothing
pub record IsFirst (q : RuledPass) : Type 0 where
  pub hands : (priority : Priority) → hand_of q priority ≡ first_hand
  pub number : q.number ≡ 0
  pub found : q.found ≡ Nothing

-- all hands stay
abbrev pub SameHands : RuledPass → RuledPass → Type 0
SameHands old new = (priority : Priority) → hand_of new priority ≡ hand_of old priority

-- the hand at the queue of this priority makes a step, and the others stay
pub record StepsAt (priority : Priority) (old new : RuledPass) (Step : Hand → Hand → Type 0) : Type 0 where
  pub here : Step (hand_of old priority) (hand_of new priority)
  pub others : (other : Priority) → other ≢ priority → hand_of new other ≡ hand_of old other

-- one entry came to the back of the queue of its priority, and the pass pushed nothing else and took nothing
abbrev pub PushesOne : Entry → RuledPass → RuledPass → Type 0
PushesOne entry old new = StepsAt entry.priority old new (λ v w. Pushes v (item_of entry) w)

-- one entry left the front of the queue of its priority, and the pass took nothing else and pushed nothing
abbrev pub TakesOne : Entry → RuledPass → RuledPass → Type 0
TakesOne entry old new = StepsAt entry.priority old new (λ v w. Takes v (item_of entry) w)

-- the queue of a priority was seen to be empty
abbrev pub SawEmpty : RuledPass → Priority → Type 0
SawEmpty q priority = Agrees (hand_of q priority) []

-- each queue of a higher priority was seen to be empty
abbrev pub SawEmptyAbove : RuledPass → Priority → Type 0
SawEmptyAbove q priority = (higher : Priority) → IsAbove higher priority → SawEmpty q higher

-- the queue of a priority was seen to be full
abbrev pub SawFull : RuledReady → RuledPass → Priority → Type 0
SawFull s q priority = Held (room_of s priority) (Agrees (hand_of q priority))

-- the pass has the next number and keeps what was found, and is as it was else
abbrev pub IsNoted : RuledPass → RuledPass → Found → Type 0
IsNoted old new found = new ≡ record old { number = min (old.number + 1) (2 ^ 64 - 1); found = found }

-- each queue was seen to be empty
pub record SawAllEmpty (q : RuledPass) : Type 0 where
  pub high : SawEmpty q High
  pub regular : SawEmpty q Regular
  pub low : SawEmpty q Low

-- at this moment a queue of a higher priority held nothing
abbrev pub IsEmptyAbove : Priority → Moment → Type 0
IsEmptyAbove priority m = IsAbove m.priority priority × (m.before ≡ []) × (m.after ≡ [])

-- the moment is one of what the last call found, by a pass with this hand at the moment's queue
abbrev pub IsFound : Found → Hand → Moment → Type 0
IsFound Nothing v m = ⊥
IsFound (Put entry) v m = WasPushed entry m × (m.before ≡ entries_at m.priority v.held)
IsFound (Full priority) v m = WasFull priority m
IsFound (Took entry) v m = (WasTaken entry m × (m.before ≡ entries_at m.priority v.held)) ⊎ IsEmptyAbove entry.priority m
IsFound Dry v m = (m.before ≡ []) × (m.after ≡ [])

-- what the queue held after the step agrees with its rule and with what the pass did
abbrev pub IsAgreed : Hand → Moment → Type 0
IsAgreed v m = (items : List Item) × (m.after ≡ entries_at m.priority items) × Agrees v items

-- the pass tells of the moments of its last call
pub record Tells (s : RuledReady) (q : RuledPass) (m : Moment) : Type 0 where
  pub number : m.number ≡ q.number
  pub lane : m.lane ≡ 0
  pub capacity : m.capacity ≡ room_of s m.priority
  pub agreed : IsAgreed (hand_of q m.priority) m
  pub found : IsFound q.found (hand_of q m.priority) m
