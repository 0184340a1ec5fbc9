use Rattle.std.proofs.Common.{[], ◌∷◌, refl}
use Rattle.std.proofs.lemmas.Result.{err_from_is_err_and}
use Rattle.run_report.specs.Lines.{line_text}
use Rattle.run_report.specs.CheckLines.{kind_lines, total_words}
use Rattle.run_report.proofs.WrittenInParts.{then_lines, stop_lines, last_line}
use Rattle.run_report.proofs.check_lines.write_lines.Goals as goal

pub returns-in_err-write_kinds : goal.returns-in_err-write_kinds
returns-in_err-write_kinds g c =
    let p = err_from_is_err_and c.from_residual.result c.from_residual.ensures.1 in
    rw p.1 (stop_lines (g.O.Sink.seen c.args.out.now) (g.O.Sink.seen c.write_kinds.new.out) (kind_lines c.args.program.now) (total_words c.args.program.now ∷ []) p.0 c.in_err-write_kinds.ensures)

pub returns : goal.returns
returns g c = then_lines (g.O.Sink.seen c.args.out.now) (g.O.Sink.seen c.write_kinds.new.out) (g.O.Sink.seen c.write_total.new.out) (kind_lines c.args.program.now) (total_words c.args.program.now ∷ []) c.write_total.result c.in_ok-write_kinds.ensures
    (last_line (g.O.Sink.seen c.write_kinds.new.out) (g.O.Sink.seen c.write_total.new.out) (total_words c.args.program.now) (line_text (total_words c.args.program.now)) c.write_total.result refl c.write_total.ensures)
