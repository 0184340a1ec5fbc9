use Rattle.std.proofs.Common.{[], ◌++◌, cond, Err}
use Rattle.std.proofs.lemmas.Result.{err_from_is_err_and}
use Rattle.run_report.specs.Report.{root_lines, count_lines, cause_lines, evidence_lines, trace_lines}
use Rattle.run_report.proofs.WrittenInParts.{then_lines, stop_lines}
use Rattle.run_report.proofs.report.write_lines.Goals as goal

pub returns-in_err-write_roots : goal.returns-in_err-write_roots
returns-in_err-write_roots g c =
    let e = (g.E.Ended.seen c.args.end.now) in
    let p = err_from_is_err_and c.from_residual.result c.from_residual.ensures.1 in
    rw p.1 (stop_lines (g.O.Sink.seen c.args.out.now) (g.O.Sink.seen c.write_roots.new.out) (root_lines c.args.program.now e) ((count_lines e) ++ ((cause_lines c.args.program.now e) ++ ((evidence_lines e) ++ (cond c.args.trace (trace_lines e) [])))) p.0 c.in_err-write_roots.ensures)

pub returns-in_err-write_counts : goal.returns-in_err-write_counts
returns-in_err-write_counts g c =
    let e = (g.E.Ended.seen c.args.end.now) in
    let p = err_from_is_err_and c.from_residual-in_err-write_counts.result c.from_residual-in_err-write_counts.ensures.1 in
    rw p.1 (then_lines (g.O.Sink.seen c.args.out.now) (g.O.Sink.seen c.write_roots.new.out) (g.O.Sink.seen c.write_counts.new.out) (root_lines c.args.program.now e) ((count_lines e) ++ ((cause_lines c.args.program.now e) ++ ((evidence_lines e) ++ (cond c.args.trace (trace_lines e) [])))) (Err p.0) c.in_ok-write_roots.ensures
    (stop_lines (g.O.Sink.seen c.write_roots.new.out) (g.O.Sink.seen c.write_counts.new.out) (count_lines e) ((cause_lines c.args.program.now e) ++ ((evidence_lines e) ++ (cond c.args.trace (trace_lines e) []))) p.0 c.in_err-write_counts.ensures))

pub returns-in_err-write_causes : goal.returns-in_err-write_causes
returns-in_err-write_causes g c =
    let e = (g.E.Ended.seen c.args.end.now) in
    let p = err_from_is_err_and c.from_residual-in_err-write_causes.result c.from_residual-in_err-write_causes.ensures.1 in
    rw p.1 (then_lines (g.O.Sink.seen c.args.out.now) (g.O.Sink.seen c.write_roots.new.out) (g.O.Sink.seen c.write_causes.new.out) (root_lines c.args.program.now e) ((count_lines e) ++ ((cause_lines c.args.program.now e) ++ ((evidence_lines e) ++ (cond c.args.trace (trace_lines e) [])))) (Err p.0) c.in_ok-write_roots.ensures
    (then_lines (g.O.Sink.seen c.write_roots.new.out) (g.O.Sink.seen c.write_counts.new.out) (g.O.Sink.seen c.write_causes.new.out) (count_lines e) ((cause_lines c.args.program.now e) ++ ((evidence_lines e) ++ (cond c.args.trace (trace_lines e) []))) (Err p.0) c.in_ok-write_counts.ensures
    (stop_lines (g.O.Sink.seen c.write_counts.new.out) (g.O.Sink.seen c.write_causes.new.out) (cause_lines c.args.program.now e) ((evidence_lines e) ++ (cond c.args.trace (trace_lines e) [])) p.0 c.in_err-write_causes.ensures)))

pub returns-in_err-write_evidence : goal.returns-in_err-write_evidence
returns-in_err-write_evidence g c =
    let e = (g.E.Ended.seen c.args.end.now) in
    let p = err_from_is_err_and c.from_residual-in_err-write_evidence.result c.from_residual-in_err-write_evidence.ensures.1 in
    rw p.1 (then_lines (g.O.Sink.seen c.args.out.now) (g.O.Sink.seen c.write_roots.new.out) (g.O.Sink.seen c.write_evidence.new.out) (root_lines c.args.program.now e) ((count_lines e) ++ ((cause_lines c.args.program.now e) ++ ((evidence_lines e) ++ (cond c.args.trace (trace_lines e) [])))) (Err p.0) c.in_ok-write_roots.ensures
    (then_lines (g.O.Sink.seen c.write_roots.new.out) (g.O.Sink.seen c.write_counts.new.out) (g.O.Sink.seen c.write_evidence.new.out) (count_lines e) ((cause_lines c.args.program.now e) ++ ((evidence_lines e) ++ (cond c.args.trace (trace_lines e) []))) (Err p.0) c.in_ok-write_counts.ensures
    (then_lines (g.O.Sink.seen c.write_counts.new.out) (g.O.Sink.seen c.write_causes.new.out) (g.O.Sink.seen c.write_evidence.new.out) (cause_lines c.args.program.now e) ((evidence_lines e) ++ (cond c.args.trace (trace_lines e) [])) (Err p.0) c.in_ok-write_causes.ensures
    (stop_lines (g.O.Sink.seen c.write_causes.new.out) (g.O.Sink.seen c.write_evidence.new.out) (evidence_lines e) (cond c.args.trace (trace_lines e) []) p.0 c.in_err-write_evidence.ensures))))

pub returns : goal.returns
returns g c =
    let e = (g.E.Ended.seen c.args.end.now) in
    then_lines (g.O.Sink.seen c.args.out.now) (g.O.Sink.seen c.write_roots.new.out) (g.O.Sink.seen c.write_trace_if.new.out) (root_lines c.args.program.now e) ((count_lines e) ++ ((cause_lines c.args.program.now e) ++ ((evidence_lines e) ++ (cond c.args.trace (trace_lines e) [])))) c.write_trace_if.result c.in_ok-write_roots.ensures
    (then_lines (g.O.Sink.seen c.write_roots.new.out) (g.O.Sink.seen c.write_counts.new.out) (g.O.Sink.seen c.write_trace_if.new.out) (count_lines e) ((cause_lines c.args.program.now e) ++ ((evidence_lines e) ++ (cond c.args.trace (trace_lines e) []))) c.write_trace_if.result c.in_ok-write_counts.ensures
    (then_lines (g.O.Sink.seen c.write_counts.new.out) (g.O.Sink.seen c.write_causes.new.out) (g.O.Sink.seen c.write_trace_if.new.out) (cause_lines c.args.program.now e) ((evidence_lines e) ++ (cond c.args.trace (trace_lines e) [])) c.write_trace_if.result c.in_ok-write_causes.ensures
    (then_lines (g.O.Sink.seen c.write_causes.new.out) (g.O.Sink.seen c.write_evidence.new.out) (g.O.Sink.seen c.write_trace_if.new.out) (evidence_lines e) (cond c.args.trace (trace_lines e) []) c.write_trace_if.result c.in_ok-write_evidence.ensures
    (c.write_trace_if.ensures))))
