use Rattle.run_report.specs.Lines.{text_of}
use Rattle.run_report.specs.CheckLines.{kind_lines, kind_lines_of}
use Rattle.run_report.proofs.WrittenInParts.{Left, rest_of}
use Rattle.run_report.proofs.check_lines.write_kinds.Given as goal

abbrev pub invariant-kinds : goal.invariant-kinds
invariant-kinds g l = Left (g.O.Sink.seen l.initial.out) (g.O.Sink.seen l.out) (text_of (kind_lines l.program))
    (rest_of (kind_lines_of l.program) 0 l.program.kinds l.at)
