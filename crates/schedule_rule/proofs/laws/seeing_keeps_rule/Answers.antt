use Rattle.schedule_rule.proofs.laws.seeing_keeps_rule.Goals as goal
use Rattle.schedule_rule.proofs.SeeingKinds.{sees-task-at, sees-over-at, reads-known-at, class-glances-at, sees-waiter-at}
use Rattle.schedule_rule.proofs.ReadyKinds.{readies-at}
use Rattle.schedule_rule.proofs.SeeingKindsResult.{sees-result-at}
use Rattle.schedule_rule.proofs.SeeingKindsRows.{sees-task-row-at, sees-after-row-at}

pub returns-clause-tasks : goal.returns-clause-tasks
returns-clause-tasks c g id v = (sees-task-at g id v, sees-over-at g id v, sees-result-at g id v, sees-task-row-at g id v, sees-after-row-at g id v)

pub returns-clause-known : goal.returns-clause-known
returns-clause-known c g id v = (reads-known-at g id v, class-glances-at g id v)

pub returns-clause-waiters : goal.returns-clause-waiters
returns-clause-waiters c g id v = (sees-waiter-at g id v, readies-at g id v)
