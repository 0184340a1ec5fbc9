use Rattle.std.proofs.Common.{arith, ◌∙◌, ap}
use Rattle.std.proofs.lemmas.Result.{err_from_is_err_and}
use Rattle.run_report.specs.Lines.{line_text}
use Rattle.run_report.specs.Report.{root_lines_of, root_name, root_words}
use Rattle.run_report.proofs.WrittenInParts.{each_start, each_step, each_stop, one_line}
use Rattle.run_report.proofs.roots.write_roots.Goals as goal

pub roots-init : goal.roots-init
roots-init g c = each_start (root_lines_of c.args.program.now) 0 (g.E.Ended.seen c.args.end.now).roots (g.O.Sink.seen c.args.out.now)

pub roots-preserved : goal.roots-preserved
roots-preserved g c = each_step (root_lines_of c.args.program.now) 0 (g.E.Ended.seen c.args.end.now).roots _ _ _ _ _ c.roots.at c.roots.at c.root.result c.roots.invariant (omega arith) c.root.ensures (ap (λ z. line_text (root_words z c.root.result)) c.root_name.ensures.name ∙ one_line (root_words (root_name c.args.program.now c.roots.at) c.root.result)) c.in_ok-write_root.ensures

pub returns-in_err-write_root : goal.returns-in_err-write_root
returns-in_err-write_root g c = let p = err_from_is_err_and c.from_residual.result c.from_residual.ensures.1 in
    rw p.1 (each_stop (root_lines_of c.args.program.now) 0 (g.E.Ended.seen c.args.end.now).roots _ _ _ _ _ c.roots.at c.roots.at c.root.result p.0 c.roots.invariant (omega arith) c.root.ensures (ap (λ z. line_text (root_words z c.root.result)) c.root_name.ensures.name ∙ one_line (root_words (root_name c.args.program.now c.roots.at) c.root.result)) c.in_err-write_root.ensures)
