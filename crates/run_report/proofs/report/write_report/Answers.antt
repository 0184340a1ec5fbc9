use Rattle.std.proofs.Common.{subst}
use Rattle.run_report.specs.Lines.{text_of}
use Rattle.run_report.specs.Report.{report_of}
use Rattle.run_report.specs.Writing.{Writes}
use Rattle.run_report.proofs.WrittenInParts.{front_written}
use Rattle.run_report.proofs.report.write_report.Goals as goal

pub returns-clause-err : goal.returns-clause-err
returns-clause-err g c = front_written (g.O.Sink.seen c.args.out.now) (g.O.Sink.seen c.write_lines.new.out) (text_of (report_of c.args.checked.now (g.E.Ended.seen c.args.end.now) c.args.trace)) c.write_lines.result
    (subst (λ p. Writes (g.O.Sink.seen c.args.out.now) (g.O.Sink.seen c.write_lines.new.out) (text_of (report_of p (g.E.Ended.seen c.args.end.now) c.args.trace)) c.write_lines.result) c.program.ensures.same c.write_lines.ensures)
