use Rattle.ready_queues.proofs.HeldFacts.{told_by_take}
use Rattle.ready_queues.proofs.mutex_ready.MutexReadyReadyStore.take.Goals as goal

pub returns-clause-told : goal.returns-clause-told
returns-clause-told g c = told_by_take _ _ _ _ c.take.ensures.notes c.take.result c.take.ensures.some c.take.ensures.none
