use Rattle.pool_core.proofs.Given.{gives_sound, gives_adds}
use Rattle.pool_core.proofs.plain_pool.PlainPool.allocate.Goals as goal

pub returns-clause-adds : goal.returns-clause-adds
returns-clause-adds c =
    gives_adds c.args.self.now c.give.new.self c.args.class c.give.result c.choose.ensures.sound c.requires c.give.ensures

pub returns-clause-sound : goal.returns-clause-sound
returns-clause-sound c =
    gives_sound c.args.self.now c.give.new.self c.args.class c.give.result c.choose.ensures.sound c.requires c.give.ensures
