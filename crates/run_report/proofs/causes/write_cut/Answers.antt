use Rattle.std.proofs.Common.{◌++◌, Err}
use Rattle.std.specs.Prelude.{codes}
use Rattle.std.proofs.lemmas.Result.{err_from_is_err_and}
use Rattle.run_report.specs.Lines.{spaced, line_text}
use Rattle.run_report.specs.Report.{cut_words, from_words}
use Rattle.run_report.proofs.CutWritten.{cut_in_parts}
use Rattle.run_report.proofs.WrittenInParts.{writes_as, writes_then, writes_stop}
use Rattle.run_report.proofs.causes.write_cut.Goals as goal

pub returns-in_err-put_piece : goal.returns-in_err-put_piece
returns-in_err-put_piece g c =
    let whole = cut_in_parts c.args.program.now (g.E.Ended.seen c.args.end.now) c.args.name.now c.args.cut.0 c.args.cut.1 c.line_from-line.result c.push_word.new.line c.push_word-2.new.line c.as_bytes.result.now c.cut_word.result.now
    c.line_from-line.ensures c.push_word.ensures c.push_word-2.ensures c.cut_word.ensures.word c.as_bytes.ensures in
    let p = err_from_is_err_and c.from_residual.result c.from_residual.ensures.1 in
    rw p.1 (writes_as (g.O.Sink.seen c.args.out.now) (g.O.Sink.seen c.put_piece.new.out) _ (line_text (cut_words c.args.program.now (g.E.Ended.seen c.args.end.now) c.args.name.now c.args.cut.0 c.args.cut.1)) (Err p.0) whole
    (writes_stop (g.O.Sink.seen c.args.out.now) (g.O.Sink.seen c.put_piece.new.out) c.as_bytes.result.now (spaced (from_words c.args.program.now (g.E.Ended.seen c.args.end.now) c.args.cut.1) ++ codes "\n") p.0 c.in_err-put_piece.ensures))

pub returns-in_err-write_from : goal.returns-in_err-write_from
returns-in_err-write_from g c =
    let whole = cut_in_parts c.args.program.now (g.E.Ended.seen c.args.end.now) c.args.name.now c.args.cut.0 c.args.cut.1 c.line_from-line.result c.push_word.new.line c.push_word-2.new.line c.as_bytes.result.now c.cut_word.result.now
    c.line_from-line.ensures c.push_word.ensures c.push_word-2.ensures c.cut_word.ensures.word c.as_bytes.ensures in
    let p = err_from_is_err_and c.from_residual-in_err-write_from.result c.from_residual-in_err-write_from.ensures.1 in
    rw p.1 (writes_as (g.O.Sink.seen c.args.out.now) (g.O.Sink.seen c.write_from.new.out) _ (line_text (cut_words c.args.program.now (g.E.Ended.seen c.args.end.now) c.args.name.now c.args.cut.0 c.args.cut.1)) (Err p.0) whole
    (writes_then (g.O.Sink.seen c.args.out.now) (g.O.Sink.seen c.put_piece.new.out) (g.O.Sink.seen c.write_from.new.out) c.as_bytes.result.now (spaced (from_words c.args.program.now (g.E.Ended.seen c.args.end.now) c.args.cut.1) ++ codes "\n") (Err p.0) c.in_ok-put_piece.ensures
    (writes_stop (g.O.Sink.seen c.put_piece.new.out) (g.O.Sink.seen c.write_from.new.out) (spaced (from_words c.args.program.now (g.E.Ended.seen c.args.end.now) c.args.cut.1)) (codes "\n") p.0 c.in_err-write_from.ensures)))

pub returns : goal.returns
returns g c =
    let whole = cut_in_parts c.args.program.now (g.E.Ended.seen c.args.end.now) c.args.name.now c.args.cut.0 c.args.cut.1 c.line_from-line.result c.push_word.new.line c.push_word-2.new.line c.as_bytes.result.now c.cut_word.result.now
    c.line_from-line.ensures c.push_word.ensures c.push_word-2.ensures c.cut_word.ensures.word c.as_bytes.ensures in
    writes_as (g.O.Sink.seen c.args.out.now) (g.O.Sink.seen c.put_piece-2.new.out) _ (line_text (cut_words c.args.program.now (g.E.Ended.seen c.args.end.now) c.args.name.now c.args.cut.0 c.args.cut.1)) c.put_piece-2.result whole
    (writes_then (g.O.Sink.seen c.args.out.now) (g.O.Sink.seen c.put_piece.new.out) (g.O.Sink.seen c.put_piece-2.new.out) c.as_bytes.result.now (spaced (from_words c.args.program.now (g.E.Ended.seen c.args.end.now) c.args.cut.1) ++ codes "\n") c.put_piece-2.result c.in_ok-put_piece.ensures
    (writes_then (g.O.Sink.seen c.put_piece.new.out) (g.O.Sink.seen c.write_from.new.out) (g.O.Sink.seen c.put_piece-2.new.out) (spaced (from_words c.args.program.now (g.E.Ended.seen c.args.end.now) c.args.cut.1)) (codes "\n") c.put_piece-2.result c.in_ok-write_from.ensures c.put_piece-2.ensures))
