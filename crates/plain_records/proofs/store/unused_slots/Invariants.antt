use Rattle.std.proofs.Common.{◌≡◌, replicate}
use Rattle.plain_state.specs.Store.{no_record}
use Rattle.plain_records.proofs.store.unused_slots.Given as goal

abbrev pub invariant-units : goal.invariant-units
invariant-units l = l.slots.items ≡ replicate l.counter no_record
