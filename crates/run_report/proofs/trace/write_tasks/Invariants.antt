use Rattle.run_report.specs.Lines.{text_of}
use Rattle.run_report.specs.Report.{task_lines, task_lines_of}
use Rattle.run_report.proofs.WrittenInParts.{Left, rest_of}
use Rattle.run_report.proofs.trace.write_tasks.Given as goal

abbrev pub invariant-rows : goal.invariant-rows
invariant-rows g l = Left (g.O.Sink.seen l.initial.out) (g.O.Sink.seen l.out) (text_of (task_lines (g.E.Ended.seen l.end)))
    (rest_of (task_lines_of (g.E.Ended.seen l.end).tasks) 1 (g.E.Ended.seen l.end).rows l.at)
