use Rattle.table_core.proofs.StandingFacts.{waiters_stand_once, only_waiters_stand}
use Rattle.table_core.proofs.laws.waiters_stand_once.Goals as goal

pub returns-clause-once : goal.returns-clause-once
returns-clause-once c = waiters_stand_once

pub returns-clause-only : goal.returns-clause-only
returns-clause-only c = only_waiters_stand
