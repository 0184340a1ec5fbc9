use Rattle.run_report.specs.Lines.{text_of}
use Rattle.run_report.specs.Report.{activation_lines, activation_lines_of}
use Rattle.run_report.proofs.WrittenInParts.{Left, rest_of}
use Rattle.run_report.proofs.trace.write_activations.Given as goal

abbrev pub invariant-rows : goal.invariant-rows
invariant-rows g l = Left (g.O.Sink.seen l.initial.out) (g.O.Sink.seen l.out) (text_of (activation_lines (g.E.Ended.seen l.end)))
    (rest_of activation_lines_of 1 (g.E.Ended.seen l.end).rows l.at)
