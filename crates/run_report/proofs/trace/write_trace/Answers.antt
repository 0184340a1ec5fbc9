use Rattle.run_report.specs.Report.{activation_lines, task_lines}
use Rattle.run_report.proofs.WrittenInParts.{then_lines}
use Rattle.run_report.proofs.trace.write_trace.Goals as goal

pub returns : goal.returns
returns g c = then_lines (g.O.Sink.seen c.args.out.now) (g.O.Sink.seen c.write_activations.new.out) (g.O.Sink.seen c.write_tasks.new.out) (activation_lines (g.E.Ended.seen c.args.end.now))
    (task_lines (g.E.Ended.seen c.args.end.now)) c.write_tasks.result c.in_ok-write_activations.ensures c.write_tasks.ensures
