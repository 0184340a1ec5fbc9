use Rattle.run_report.specs.Lines.{text_of}
use Rattle.run_report.specs.Report.{cause_lines, cause_lines_of}
use Rattle.run_report.proofs.WrittenInParts.{Left, rest_of}
use Rattle.run_report.proofs.causes.write_causes.Given as goal

abbrev pub invariant-roots : goal.invariant-roots
invariant-roots g l = Left (g.O.Sink.seen l.initial.out) (g.O.Sink.seen l.out) (text_of (cause_lines l.program (g.E.Ended.seen l.end)))
    (rest_of (cause_lines_of l.program (g.E.Ended.seen l.end)) 0 (g.E.Ended.seen l.end).roots l.at)
