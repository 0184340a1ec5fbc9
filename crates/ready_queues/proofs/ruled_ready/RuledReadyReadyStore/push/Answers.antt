use Rattle.std.proofs.Common.{refl}
use Rattle.ready_queues.proofs.SightFacts.{noted_push, noted_full}
use Rattle.ready_queues.proofs.ruled_ready.RuledReadyReadyStore.push.Goals as goal

pub returns-then-is_put-clause-told : goal.returns-then-is_put-clause-told
returns-then-is_put-clause-told g c =
    noted_push c.args.self.now c.args.qpass.now c.put-is_put.new.qpass c.note.new.self _ c.put-is_put.ensures.number c.note.ensures
    c.args.entry refl c.if-is_put.ensures.put

pub returns-else-is_put-clause-told : goal.returns-else-is_put-clause-told
returns-else-is_put-clause-told g c = (
  refl,
  noted_full c.args.self.now c.args.qpass.now c.put-is_put.new.qpass c.note-else-is_put.new.self _ c.put-is_put.ensures.number
      c.note-else-is_put.ensures c.args.entry.priority refl c.if-is_put.ensures.full,
)
