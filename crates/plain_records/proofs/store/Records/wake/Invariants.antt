use Rattle.std.proofs.Common.{◌≡◌, ℕ, List, ◌-◌, length}
use Rattle.plain_state.specs.Store.{queued_count, woken}
use Rattle.plain_records.specs.Taken.{MayWake}
use Rattle.plain_records.proofs.store.Records.wake.Given as goal

abbrev pub invariant-waiters : goal.invariant-waiters
invariant-waiters g l = (left : List ℕ) × MayWake l.self l.next left × (woken l.cut left l.self ≡ woken l.cut g.waiters l.initial.self)

abbrev pub decreases-waiters : goal.decreases-waiters
decreases-waiters g l = length l.self.records - queued_count l.self.ready
