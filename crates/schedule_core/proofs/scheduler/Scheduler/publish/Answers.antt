use Rattle.std.proofs.Common.{inl, inr, refl}
use Rattle.schedule_core.proofs.scheduler.Scheduler.publish.Goals as goal

pub returns-in-Ok-clause-published : goal.returns-in-Ok-clause-published
returns-in-Ok-clause-published g c = inl (c.in-Ok.ensures.told, refl)

pub returns-in-Err-clause-published : goal.returns-in-Err-clause-published
returns-in-Err-clause-published g c = inr (c.in-Err.ensures.told.1, c.tell_full.ensures.told)
