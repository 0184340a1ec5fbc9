use Rattle.std.proofs.Common.{Some}
use Rattle.plain_records.proofs.Kept.{made_are}
use Rattle.plain_records.proofs.store.Records.make.Goals as goal

pub invariant_of-self : goal.invariant_of-self
invariant_of-self c = made_are c.self.inside.superblocks c.self.inside.pool c.self.inside.classes.items c.self.inside.records.items c.self.inside.words.items c.self.inside.ready c.unit-unit.result (Some c.class.result) c.new.result c.self.invariant
