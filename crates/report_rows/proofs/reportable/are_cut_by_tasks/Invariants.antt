use Rattle.report_rows.specs.Cuts.{IsCutByTask}
use Rattle.report_rows.proofs.MembersChecked.{EachBelow}
use Rattle.report_rows.proofs.reportable.are_cut_by_tasks.Given as goal

abbrev pub invariant-tasks : goal.invariant-tasks
invariant-tasks l = EachBelow l.task-index l.end.tasks.now (λ task. IsCutByTask l.end.activations.now task.cause)
