use Rattle.run_report.specs.Lines.{text_of}
use Rattle.run_report.specs.Report.{superblock_lines, superblock_lines_of}
use Rattle.run_report.proofs.WrittenInParts.{Left, rest_of}
use Rattle.run_report.proofs.evidence.write_superblocks.Given as goal

abbrev pub invariant-superblocks : goal.invariant-superblocks
invariant-superblocks g l = Left (g.O.Sink.seen l.initial.out) (g.O.Sink.seen l.out) (text_of (superblock_lines (g.E.Ended.seen l.end)))
    (rest_of (superblock_lines_of (g.E.Ended.seen l.end).units) 0 (g.E.Ended.seen l.end).evidence l.superblock)
