-- What two takes, one after the other, tell of an entry.
use Rattle.std.specs.Prelude.{ℕ, Option, Some, None, ⊤}
use Rattle.ready_queues.specs.declared.entry.Entry.{Entry}
use Rattle.ready_queues.specs.Entries.{IsAbove}
use Rattle.ready_queues.specs.Moments.{Moment, WasTaken, WasEmpty, Rose}

-- the second entry is of a higher priority than the first, or there was no first
abbrev pub Overtakes : Option Entry → Entry → Type 0
Overtakes None second = ⊤
Overtakes (Some first) second = IsAbove second.priority first.priority

-- At a moment after `begun` the queue of the entry was empty, as the pass told then; at a later moment, as the pass tells now,
-- the entry stood at its front and was taken.
abbrev pub CameBetween : {P : Type 0} → (P → Moment → Type 0) → ℕ → P → Entry → Type 0
CameBetween {P} saw begun now entry =
    (then : P) × (m : Moment) × (n : Moment) × saw then m × saw now n × Rose begun m.number × Rose m.number n.number
    × WasEmpty n.priority n.lane m × WasTaken entry n

-- a second answer that overtakes the first was not there all the time
abbrev pub KeepsOrder : {P : Type 0} → (P → Moment → Type 0) → ℕ → P → Option Entry → Option Entry → Type 0
KeepsOrder saw begun now first None = ⊤
KeepsOrder saw begun now first (Some second) = Overtakes first second → CameBetween saw begun now second
