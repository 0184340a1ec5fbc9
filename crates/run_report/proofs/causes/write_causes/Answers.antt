use Rattle.std.proofs.Common.{arith}
use Rattle.std.proofs.lemmas.Result.{err_from_is_err_and}
use Rattle.std.proofs.Common.{refl}
use Rattle.run_report.specs.Report.{cause_lines_of}
use Rattle.run_report.proofs.WrittenInParts.{each_start, each_step, each_stop}
use Rattle.run_report.proofs.causes.write_causes.Goals as goal

pub roots-init : goal.roots-init
roots-init g c = each_start (cause_lines_of c.args.program.now (g.E.Ended.seen c.args.end.now)) 0 (g.E.Ended.seen c.args.end.now).roots (g.O.Sink.seen c.args.out.now)

pub roots-preserved : goal.roots-preserved
roots-preserved g c = each_step (cause_lines_of c.args.program.now (g.E.Ended.seen c.args.end.now)) 0 (g.E.Ended.seen c.args.end.now).roots _ _ _ _ _ c.roots.at c.roots.at c.root.result c.roots.invariant (omega arith) c.root.ensures (refl) c.in_ok-write_cause.ensures

pub returns-in_err-write_cause : goal.returns-in_err-write_cause
returns-in_err-write_cause g c = let p = err_from_is_err_and c.from_residual.result c.from_residual.ensures.1 in
    rw p.1 (each_stop (cause_lines_of c.args.program.now (g.E.Ended.seen c.args.end.now)) 0 (g.E.Ended.seen c.args.end.now).roots _ _ _ _ _ c.roots.at c.roots.at c.root.result p.0 c.roots.invariant (omega arith) c.root.ensures (refl) c.in_err-write_cause.ensures)
