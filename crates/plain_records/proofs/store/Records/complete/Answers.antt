use Rattle.std.proofs.Common.{refl}
use Rattle.plain_records.proofs.Waking.{may_wake}
use Rattle.plain_records.proofs.store.Records.complete.Goals as goal

pub wake-requires : goal.wake-requires
wake-requires g c = rw (c.set_outcome-first.ensures.ended, c.set_outcome-first.ensures.first) (may_wake c.args.unit c.args.outcome g.waiters c.args.self.now c.requires)

pub returns : goal.returns
returns g c = rw (c.wake.ensures, c.set_outcome-first.ensures.ended, c.cut_of.ensures) refl
