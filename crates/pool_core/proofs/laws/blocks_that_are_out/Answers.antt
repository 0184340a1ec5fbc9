use Rattle.pool_core.proofs.Apart.{blocks_apart, blocks_inside}
use Rattle.pool_core.proofs.Counting.{blocks_counted}
use Rattle.pool_core.proofs.laws.blocks_that_are_out.Goals as goal

pub returns-clause-apart : goal.returns-clause-apart
returns-clause-apart c = blocks_apart

pub returns-clause-inside : goal.returns-clause-inside
returns-clause-inside c = blocks_inside

pub returns-clause-counted : goal.returns-clause-counted
returns-clause-counted c = blocks_counted
