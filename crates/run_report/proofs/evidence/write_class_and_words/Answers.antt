use Rattle.std.proofs.Common.{refl}
use Rattle.std.proofs.lemmas.Result.{err_from_is_err_and}
use Rattle.run_report.specs.Report.{evidence_words, superblock_lines}
use Rattle.run_report.proofs.WrittenInParts.{then_line, stop_line}
use Rattle.run_report.proofs.evidence.write_class_and_words.Goals as goal

pub returns-in_err-write_class : goal.returns-in_err-write_class
returns-in_err-write_class g c =
    let p = err_from_is_err_and c.from_residual.result c.from_residual.ensures.1 in
    rw p.1 (stop_line (g.O.Sink.seen c.args.out.now) (g.O.Sink.seen c.write_class.new.out) (evidence_words c.args.class) (evidence_words c.args.class) (superblock_lines (g.E.Ended.seen c.args.end.now)) p.0 refl c.in_err-write_class.ensures)

pub returns : goal.returns
returns g c = then_line (g.O.Sink.seen c.args.out.now) (g.O.Sink.seen c.write_class.new.out) (g.O.Sink.seen c.write_superblocks.new.out) (evidence_words c.args.class) (evidence_words c.args.class) (superblock_lines (g.E.Ended.seen c.args.end.now))
    c.write_superblocks.result refl c.in_ok-write_class.ensures c.write_superblocks.ensures
