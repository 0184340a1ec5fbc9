use Rattle.step_table.specs.Passes.{view, block_of}
use Rattle.memory_pool.proofs.Holding.{has-given, only-given, only-refused, only-released}
use Rattle.memory_pool.proofs.tests.turn.Goals as goal

pub release-requires-clause-hand : goal.release-requires-clause-hand
release-requires-clause-hand g c =
    has-given c.args.shared.now.setup.plan c.args.class (view c.args.pass.now) (block_of c.in-Block.block) (view c.allocate.new.pass) c.in-Block.ensures.answer

pub returns-in-Block-clause-idle : goal.returns-in-Block-clause-idle
returns-in-Block-clause-idle g c =
    only-released c.args.shared.now.setup.plan c.in-Block.block c.allocate.new.pass c.release.new.pass c.release.ensures.view
    (only-given c.args.shared.now.setup.plan c.args.class (view c.args.pass.now) (block_of c.in-Block.block) (view c.allocate.new.pass) c.in-Block.ensures.answer c.requires.idle)

pub returns-in-Null-clause-idle : goal.returns-in-Null-clause-idle
returns-in-Null-clause-idle g c = only-refused c.args.shared.now.setup.plan c.args.class (view c.args.pass.now) (view c.allocate.new.pass) c.in-Null.ensures.answer c.requires.idle
