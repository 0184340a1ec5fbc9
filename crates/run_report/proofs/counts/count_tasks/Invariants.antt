use Rattle.std.proofs.Common.{◌≡◌, ◌≤◌, ◌+◌, suc, drop}
use Rattle.record_core.specs.Journal.{tasks_from, task_count}
use Rattle.run_report.proofs.counts.count_tasks.Given as goal

abbrev pub invariant-rows : goal.invariant-rows
invariant-rows g l = record {
  counted : l.count + tasks_from (suc l.at) (drop l.at (g.E.Ended.seen l.end).rows) ≡ task_count (g.E.Ended.seen l.end).rows;
  within : l.count ≤ l.at;
}
