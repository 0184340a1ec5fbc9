use Rattle.step_table.specs.Passes.{view, block_of}
use Rattle.memory_pool.proofs.Holding.{has-given, has-kept, has-refused}
use Rattle.memory_pool.proofs.tests.gives_and_takes_back.Goals as goal

pub release-requires-clause-hand : goal.release-requires-clause-hand
release-requires-clause-hand g c =
    let plan = c.in_ok-shared.shared.setup.plan in let first = block_of c.in-Block.first in
    has-refused plan 2 (view c.allocate-2.new.pass) first (view c.allocate-3.new.pass) c.in-Null.ensures.answer
    (has-kept plan 0 (view c.allocate.new.pass) (block_of c.in-Block-allocate.second) first (view c.allocate-2.new.pass) c.in-Block-allocate.ensures.answer
    (has-given plan 3 (view c.in_ok-shared.pass) first (view c.allocate.new.pass) c.in-Block.ensures.answer))
