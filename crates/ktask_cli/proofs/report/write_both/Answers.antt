use Rattle.std.proofs.Common.{Ok, Err}
use Rattle.std.proofs.lemmas.Result.{err_from_is_err_and}
use Rattle.run_report.specs.Lines.{text_of}
use Rattle.run_report.specs.Report.{report_of}
use Rattle.run_report.proofs.WrittenInParts.{writes_then, writes_stop}
use Rattle.ktask_cli.proofs.Offered.{written}
use Rattle.ktask_cli.proofs.report.write_both.Goals as goal

pub returns-in_err-put_all : goal.returns-in_err-put_all
returns-in_err-put_all g c =
    let p = err_from_is_err_and c.from_residual.result c.from_residual.ensures.1 in
    let put = written (g.O.Sink.seen c.args.out.now) (g.O.Sink.seen c.put_all.new.out) c.args.front.now (Err p.0)
    c.in_err-put_all.ensures.ok c.in_err-put_all.ensures.err c.in_err-put_all.ensures.cause in
    rw p.1 (writes_stop _ _ c.args.front.now (text_of (report_of c.args.ran.now.checked c.args.ran.now.end c.args.trace)) p.0 put)

pub returns : goal.returns
returns g c =
    let text = text_of (report_of c.args.ran.now.checked c.args.ran.now.end c.args.trace) in
    let put = written (g.O.Sink.seen c.args.out.now) (g.O.Sink.seen c.put_all.new.out) c.args.front.now (Ok tt)
    c.in_ok-put_all.ensures.ok c.in_ok-put_all.ensures.err c.in_ok-put_all.ensures.cause in
    writes_then _ _ _ c.args.front.now text c.write_report.result put
    (written _ _ text c.write_report.result c.write_report.ensures.ok c.write_report.ensures.err c.write_report.ensures.cause)
