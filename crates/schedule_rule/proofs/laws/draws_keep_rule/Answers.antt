use Rattle.schedule_rule.proofs.laws.draws_keep_rule.Goals as goal
use Rattle.schedule_rule.proofs.DrawKindsTotals.{sees-drawn-at, sees-live-at}
use Rattle.schedule_rule.proofs.DrawKindsAgain.{draws-again-at}
use Rattle.schedule_rule.proofs.DrawKindsRun.{draws-for_run-at}
use Rattle.schedule_rule.proofs.DrawKindsRoot.{draws-for_root-at}
use Rattle.schedule_rule.proofs.RowKinds.{writes-task-at, writes-after-at}

pub returns-clause-totals : goal.returns-clause-totals
returns-clause-totals c g id v = ((λ asker may. sees-drawn-at g id v asker), sees-live-at g id v)

pub returns-clause-draws : goal.returns-clause-draws
returns-clause-draws c g id v = (
  draws-again-at g id v,
  (λ a knows y made no_number class r has task unplaced. draws-for_run-at g id v a knows y made no_number class r has unplaced),
  draws-for_root-at g id v,
)

pub returns-clause-rows : goal.returns-clause-rows
returns-clause-rows c g id v = (writes-task-at g id v, writes-after-at g id v)
