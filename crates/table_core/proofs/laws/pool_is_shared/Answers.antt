use Rattle.table_core.proofs.RuleFacts.{blocks_are_apart, records_are_apart, records_and_blocks_are_apart, unused_pool_is_empty}
use Rattle.table_core.proofs.laws.pool_is_shared.Goals as goal

pub returns-clause-apart : goal.returns-clause-apart
returns-clause-apart c = blocks_are_apart

pub returns-clause-records : goal.returns-clause-records
returns-clause-records c = records_are_apart

pub returns-clause-records_and_blocks : goal.returns-clause-records_and_blocks
returns-clause-records_and_blocks c = records_and_blocks_are_apart

pub returns-clause-empty : goal.returns-clause-empty
returns-clause-empty c = unused_pool_is_empty
