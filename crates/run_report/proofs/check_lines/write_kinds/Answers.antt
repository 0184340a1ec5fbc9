use Rattle.std.proofs.Common.{arith, refl}
use Rattle.std.proofs.lemmas.Result.{err_from_is_err_and}
use Rattle.run_report.specs.CheckLines.{kind_lines, kind_lines_of}
use Rattle.run_report.specs.Lines.{text_of}
use Rattle.run_report.proofs.Names.{item_there}
use Rattle.run_report.proofs.WrittenInParts.{each_step, each_stop}
use Rattle.run_report.proofs.check_lines.write_kinds.Goals as goal

pub kinds-preserved : goal.kinds-preserved
kinds-preserved g c = each_step (kind_lines_of c.args.program.now) 0 c.args.program.now.kinds (g.O.Sink.seen c.args.out.now) (g.O.Sink.seen c.kinds.out) (g.O.Sink.seen c.write_kind_at.new.out) (text_of (kind_lines c.args.program.now)) (text_of (kind_lines_of c.args.program.now c.kinds.at c.kind-item.result)) c.kinds.at c.kinds.at c.kind-item.result
    c.kinds.invariant (omega arith) (item_there c.as_slice-kind-items.result.now c.args.program.now.kinds c.kinds.at c.kind-item.result c.as_slice-kind-items.ensures c.kinds-test.true c.kind-item.is) refl c.in_ok-write_kind_at.ensures

pub returns-in_err-write_kind_at : goal.returns-in_err-write_kind_at
returns-in_err-write_kind_at g c = let p = err_from_is_err_and c.from_residual.result c.from_residual.ensures.1 in
    rw p.1 (each_stop (kind_lines_of c.args.program.now) 0 c.args.program.now.kinds (g.O.Sink.seen c.args.out.now) (g.O.Sink.seen c.kinds.out) (g.O.Sink.seen c.write_kind_at.new.out) (text_of (kind_lines c.args.program.now)) (text_of (kind_lines_of c.args.program.now c.kinds.at c.kind-item.result)) c.kinds.at c.kinds.at c.kind-item.result p.0
    c.kinds.invariant (omega arith) (item_there c.as_slice-kind-items.result.now c.args.program.now.kinds c.kinds.at c.kind-item.result c.as_slice-kind-items.ensures c.kinds-test.true c.kind-item.is) refl c.in_err-write_kind_at.ensures)
