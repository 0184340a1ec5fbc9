use Rattle.ready_queues.proofs.HeldFacts.{told_by_push}
use Rattle.ready_queues.proofs.mutex_ready.MutexReadyReadyStore.push.Goals as goal

pub returns-clause-told : goal.returns-clause-told
returns-clause-told g c =
    told_by_push _ _ _ _ c.push.ensures.notes c.args.entry c.push.result c.push.ensures.ok c.push.ensures.same c.push.ensures.full
