-- The queues of the activations that may start, and how many each has places for.
use Rattle.std.specs.Prelude.{◌≡◌, ℕ, Option, Some, None}
use Rattle.circular_buffer.specs.Buffer.{Buffer}
use Rattle.run_model.specs.State.{Queues, next_queued}

pub record ReadyState : Type 0 where
  pub queues : Queues
  pub capacity : ℕ

abbrev pub ready_of : Buffer ℕ → Buffer ℕ → Buffer ℕ → ReadyState
ready_of high regular low = record { queues = record { high = high.items; regular = regular.items; low = low.items }; capacity = high.capacity }

abbrev pub with_queues : ReadyState → Queues → ReadyState
with_queues r queues = record r { queues = queues }

-- the first of the highest queue that has one is taken, or there is none and nothing changes
abbrev pub Takes : ReadyState → Option ℕ → ReadyState → Type 0
Takes old None new = (next_queued old.queues ≡ None) × (new ≡ old)
Takes old (Some unit) new = (left : Queues) × (next_queued old.queues ≡ Some (unit, left)) × (new ≡ with_queues old left)
