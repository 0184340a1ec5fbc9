use Rattle.run_report.specs.Lines.{text_of}
use Rattle.run_report.specs.Report.{root_lines, root_lines_of}
use Rattle.run_report.proofs.WrittenInParts.{Left, rest_of}
use Rattle.run_report.proofs.roots.write_roots.Given as goal

abbrev pub invariant-roots : goal.invariant-roots
invariant-roots g l = Left (g.O.Sink.seen l.initial.out) (g.O.Sink.seen l.out) (text_of (root_lines l.program (g.E.Ended.seen l.end)))
    (rest_of (root_lines_of l.program) 0 (g.E.Ended.seen l.end).roots l.at)
