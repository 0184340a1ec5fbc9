use Rattle.std.proofs.Common.{◌≡◌, None, replicate}
use Rattle.plain_records.proofs.store.no_classes.Given as goal

abbrev pub invariant-units : goal.invariant-units
invariant-units l = l.classes.items ≡ replicate l.counter None
