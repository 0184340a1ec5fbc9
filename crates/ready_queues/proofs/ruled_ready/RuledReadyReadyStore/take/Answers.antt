use Rattle.std.proofs.Common.{refl}
use Rattle.ready_queues.proofs.SightFacts.{noted_take, noted_higher, noted_dry}
use Rattle.ready_queues.proofs.ruled_ready.RuledReadyReadyStore.take.Goals as goal

pub returns-in-Some-clause-told : goal.returns-in-Some-clause-told
returns-in-Some-clause-told g c = (
  noted_take c.args.self.now c.args.qpass.now c.get.new.qpass c.note.new.self _ c.get.ensures.number c.note.ensures
      c.in-Some.entry refl c.in-Some.ensures.took,
  noted_higher c.args.self.now c.args.qpass.now c.get.new.qpass c.note.new.self _ c.get.ensures.number c.note.ensures
      c.in-Some.entry refl c.in-Some.ensures.higher,
)

pub returns-in-None-clause-told : goal.returns-in-None-clause-told
returns-in-None-clause-told g c =
    noted_dry c.args.self.now c.args.qpass.now c.get.new.qpass c.note-in-None.new.self _ c.get.ensures.number c.note-in-None.ensures
    refl c.in-None.ensures.dry
