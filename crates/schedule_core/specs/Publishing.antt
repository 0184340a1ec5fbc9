-- What a publishing tells.
use Rattle.std.specs.Prelude.{◌≡◌, ℕ, ◌⊎◌}
use Rattle.ready_queues.specs.Moments.{Moment, WasPushed, WasFull, InCall}
use Rattle.ready_queues.specs.declared.entry.Entry.{Entry}
use Rattle.table_core.specs.declared.view.View.{View}
use Rattle.schedule_core.specs.FrameWords.{OnlySees}
use Rattle.schedule_core.specs.Taking.{SawSpill}

-- a step of the call found that a queue was told to have been full, and nothing else has changed
abbrev pub TellsFull : View → View → Type 0
TellsFull old new = SawSpill old new × OnlySees old new

-- The entry came to the back of its queue; or the queue was full, and all passes are told that one was.
abbrev pub Publishes : ℕ → ℕ → (Moment → Type 0) → Entry → View → View → Type 0
Publishes lanes begun tells entry old new = (InCall lanes begun tells (WasPushed entry) × (new ≡ old)) ⊎ (InCall lanes begun tells (WasFull entry.priority) × TellsFull old new)
