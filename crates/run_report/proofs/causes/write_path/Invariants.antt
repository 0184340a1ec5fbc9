use Rattle.std.proofs.Common.{◌-◌, length}
use Rattle.record_core.specs.Numbers.{HasTask}
use Rattle.run_report.proofs.PathWritten.{path_text}
use Rattle.run_report.proofs.WrittenInParts.{Left}
use Rattle.run_report.proofs.causes.write_path.Given as goal

abbrev pub invariant-path : goal.invariant-path
invariant-path g l = record {
  there : HasTask (g.E.Ended.seen l.end).rows l.task;
  written : Left (g.O.Sink.seen l.initial.out) (g.O.Sink.seen l.out)
      (path_text (length (g.E.Ended.seen l.end).rows) (g.E.Ended.seen l.end).tasks l.initial.task)
      (path_text (length (g.E.Ended.seen l.end).rows - l._step) (g.E.Ended.seen l.end).tasks l.task);
}
