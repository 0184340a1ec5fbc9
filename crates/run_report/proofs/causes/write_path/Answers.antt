use Rattle.std.proofs.Common.{◌≡◌, ◌+◌, ◌-◌, ◌++◌, length, Some, None, refl, sym, ◌∙◌, ap, arith}
use Rattle.std.specs.Prelude.{codes}
use Rattle.std.proofs.lemmas.Result.{err_from_is_err_and}
use Rattle.record_core.specs.Journal.{cause_of}
use Rattle.run_report.specs.Report.{cut_by}
use Rattle.run_report.proofs.PathWritten.{text_after, cut_of, path_begins, by_task}
use Rattle.run_report.proofs.WrittenInParts.{left_step, left_stop, left_end}
use Rattle.run_report.proofs.causes.write_path.Goals as goal

pub returns-in_err-put_word : goal.returns-in_err-put_word
returns-in_err-put_word g c =
    let p = err_from_is_err_and c.from_residual.result c.from_residual.ensures.1 in
    rw p.1 (left_stop (g.O.Sink.seen c.args.out.now) (g.O.Sink.seen c.path.out) (g.O.Sink.seen c.put_word.new.out) _ _ _ _ p.0 c.path.invariant.written
    (path_begins (g.E.Ended.seen c.args.end.now).tasks (length (g.E.Ended.seen c.args.end.now).rows) c.path._step c.path.task (cut_by (cause_of (g.E.Ended.seen c.args.end.now).tasks c.path.task)) (omega (arith, c.path-test.true, c.accepted-step-end.ensures)) refl ∙ ap (λ z. (codes " " ++ z) ++ text_after ((length (g.E.Ended.seen c.args.end.now).rows) - (c.path._step + 1)) (g.E.Ended.seen c.args.end.now).tasks (cut_by (cause_of (g.E.Ended.seen c.args.end.now).tasks c.path.task))) (sym (c.as_bytes.ensures.value ∙ c.format.ensures.text))) c.in_err-put_word.ensures)

pub returns-in_default : goal.returns-in_default
returns-in_default g c =
    left_end (g.O.Sink.seen c.args.out.now) (g.O.Sink.seen c.put_word.new.out) _ _ (left_step (g.O.Sink.seen c.args.out.now) (g.O.Sink.seen c.path.out) (g.O.Sink.seen c.put_word.new.out) _ _ _ _ c.path.invariant.written
    (path_begins (g.E.Ended.seen c.args.end.now).tasks (length (g.E.Ended.seen c.args.end.now).rows) c.path._step c.path.task None (omega (arith, c.path-test.true, c.accepted-step-end.ensures)) (cut_of (g.E.Ended.seen c.args.end.now).tasks c.path.task c.task.result None c.task.ensures (sym c.in_default.is ∙ c.cut_by.ensures)) ∙ ap (λ z. (codes " " ++ z) ++ text_after ((length (g.E.Ended.seen c.args.end.now).rows) - (c.path._step + 1)) (g.E.Ended.seen c.args.end.now).tasks None) (sym (c.as_bytes.ensures.value ∙ c.format.ensures.text))) c.in_ok-put_word.ensures) refl

pub path-preserved : goal.path-preserved
path-preserved g c =
    let next : Some c.in-Some.other ≡ cut_by (cause_of (g.E.Ended.seen c.args.end.now).tasks c.path.task) = (cut_of (g.E.Ended.seen c.args.end.now).tasks c.path.task c.task.result (Some c.in-Some.other) c.task.ensures (sym c.in-Some.is ∙ c.cut_by.ensures)) in
    record {
      there = c.requires.causes c.path.task c.in-Some.other (by_task (g.E.Ended.seen c.args.end.now).tasks c.path.task c.in-Some.other next);
      written = left_step (g.O.Sink.seen c.args.out.now) (g.O.Sink.seen c.path.out) (g.O.Sink.seen c.put_word.new.out) _ _ _ _ c.path.invariant.written
          (path_begins (g.E.Ended.seen c.args.end.now).tasks (length (g.E.Ended.seen c.args.end.now).rows) c.path._step c.path.task (Some c.in-Some.other) (omega (arith, c.path-test.true, c.accepted-step-end.ensures)) next ∙ ap (λ z. (codes " " ++ z) ++ text_after ((length (g.E.Ended.seen c.args.end.now).rows) - (c.path._step + 1)) (g.E.Ended.seen c.args.end.now).tasks (Some c.in-Some.other)) (sym (c.as_bytes.ensures.value ∙ c.format.ensures.text))) c.in_ok-put_word.ensures;
    }
