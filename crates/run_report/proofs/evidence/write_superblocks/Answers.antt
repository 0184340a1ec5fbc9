use Rattle.std.proofs.Common.{arith, ◌∙◌, ap}
use Rattle.std.proofs.lemmas.Result.{err_from_is_err_and}
use Rattle.run_report.specs.Lines.{line_text}
use Rattle.run_report.specs.Report.{superblock_lines_of, superblock_words}
use Rattle.run_report.proofs.WrittenInParts.{each_start, each_step, each_stop, one_line}
use Rattle.run_report.proofs.evidence.write_superblocks.Goals as goal

pub superblocks-init : goal.superblocks-init
superblocks-init g c = each_start (superblock_lines_of (g.E.Ended.seen c.args.end.now).units) 0 (g.E.Ended.seen c.args.end.now).evidence (g.O.Sink.seen c.args.out.now)

pub superblocks-preserved : goal.superblocks-preserved
superblocks-preserved g c = each_step (superblock_lines_of (g.E.Ended.seen c.args.end.now).units) 0 (g.E.Ended.seen c.args.end.now).evidence _ _ _ _ _ c.superblocks.superblock c.superblocks.superblock c.evidence.result c.superblocks.invariant (omega arith) c.evidence.ensures (ap (λ n. line_text (superblock_words n c.superblocks.superblock c.evidence.result)) c.geometry-geometry.ensures.units ∙ one_line (superblock_words (g.E.Ended.seen c.args.end.now).units c.superblocks.superblock c.evidence.result)) c.in_ok-write_superblock.ensures

pub returns-in_err-write_superblock : goal.returns-in_err-write_superblock
returns-in_err-write_superblock g c = let p = err_from_is_err_and c.from_residual.result c.from_residual.ensures.1 in
    rw p.1 (each_stop (superblock_lines_of (g.E.Ended.seen c.args.end.now).units) 0 (g.E.Ended.seen c.args.end.now).evidence _ _ _ _ _ c.superblocks.superblock c.superblocks.superblock c.evidence.result p.0 c.superblocks.invariant (omega arith) c.evidence.ensures (ap (λ n. line_text (superblock_words n c.superblocks.superblock c.evidence.result)) c.geometry-geometry.ensures.units ∙ one_line (superblock_words (g.E.Ended.seen c.args.end.now).units c.superblocks.superblock c.evidence.result)) c.in_err-write_superblock.ensures)
