use Rattle.std.proofs.Common.{refl}
use Rattle.ready_queues.proofs.SightFacts.{told_parted}
use Rattle.ready_queues.proofs.ruled_ready.RuledReadyReadyStore.split.Goals as goal

pub returns-clause-told : goal.returns-clause-told
returns-clause-told c m told =
    told_parted c.args.self.now c.args.qpass _ m refl refl
    c.another.ensures.left c.another-2.ensures.left c.another-3.ensures.left told
