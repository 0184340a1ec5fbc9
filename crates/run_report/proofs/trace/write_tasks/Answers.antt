use Rattle.std.proofs.Common.{arith}
use Rattle.std.proofs.lemmas.Result.{err_from_is_err_and}
use Rattle.std.proofs.Common.{refl, ◌+◌}
use Rattle.run_report.specs.Report.{task_lines_of}
use Rattle.run_report.proofs.WrittenInParts.{each_start, each_step, each_stop, place_of}
use Rattle.run_report.proofs.trace.write_tasks.Goals as goal

pub rows-init : goal.rows-init
rows-init g c = each_start (task_lines_of (g.E.Ended.seen c.args.end.now).tasks) 1 (g.E.Ended.seen c.args.end.now).rows (g.O.Sink.seen c.args.out.now)

pub rows-preserved : goal.rows-preserved
rows-preserved g c = each_step (task_lines_of (g.E.Ended.seen c.args.end.now).tasks) 1 (g.E.Ended.seen c.args.end.now).rows _ _ _ _ _ c.rows.at (c.rows.at + 1) c.activation.result c.rows.invariant (omega arith) (place_of (g.E.Ended.seen c.args.end.now).rows c.rows.at (c.rows.at + 1) c.activation.result refl c.activation.ensures) (refl) c.in_ok-write_first.ensures

pub returns-in_err-write_first : goal.returns-in_err-write_first
returns-in_err-write_first g c = let p = err_from_is_err_and c.from_residual.result c.from_residual.ensures.1 in
    rw p.1 (each_stop (task_lines_of (g.E.Ended.seen c.args.end.now).tasks) 1 (g.E.Ended.seen c.args.end.now).rows _ _ _ _ _ c.rows.at (c.rows.at + 1) c.activation.result p.0 c.rows.invariant (omega arith) (place_of (g.E.Ended.seen c.args.end.now).rows c.rows.at (c.rows.at + 1) c.activation.result refl c.activation.ensures) (refl) c.in_err-write_first.ensures)
