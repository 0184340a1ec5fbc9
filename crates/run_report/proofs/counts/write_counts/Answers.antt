use Rattle.std.proofs.Common.{[], ◌∷◌, ◌++◌, length, ap, ◌∙◌, Err}
use Rattle.std.specs.Prelude.{codes}
use Rattle.std.proofs.lemmas.Result.{err_from_is_err_and}
use Rattle.record_core.specs.Journal.{task_count}
use Rattle.run_report.specs.Report.{count_words, held_words}
use Rattle.run_report.proofs.WrittenInParts.{then_line, stop_line, last_line}
use Rattle.run_report.proofs.counts.write_counts.Goals as goal

pub returns-in_err-write_count : goal.returns-in_err-write_count
returns-in_err-write_count g c =
    let e = (g.E.Ended.seen c.args.end.now) in
    let p = err_from_is_err_and c.from_residual.result c.from_residual.ensures.1 in
    rw p.1 (stop_line (g.O.Sink.seen c.args.out.now) (g.O.Sink.seen c.write_count.new.out) (count_words (codes "activations") (length e.rows)) _ (count_words (codes "tasks") (task_count e.rows) ∷ count_words (codes "nulls") e.nulls ∷ held_words e.held ∷ []) p.0 (ap (count_words (codes "activations")) (c.from.ensures ∙ c.accepted.ensures)) c.in_err-write_count.ensures)

pub returns-in_err-write_count-2 : goal.returns-in_err-write_count-2
returns-in_err-write_count-2 g c =
    let e = (g.E.Ended.seen c.args.end.now) in
    let p = err_from_is_err_and c.from_residual-in_err-write_count-2.result c.from_residual-in_err-write_count-2.ensures.1 in
    rw p.1 (then_line (g.O.Sink.seen c.args.out.now) (g.O.Sink.seen c.write_count.new.out) (g.O.Sink.seen c.write_count-2.new.out) (count_words (codes "activations") (length e.rows)) _ (count_words (codes "tasks") (task_count e.rows) ∷ count_words (codes "nulls") e.nulls ∷ held_words e.held ∷ []) (Err p.0) (ap (count_words (codes "activations")) (c.from.ensures ∙ c.accepted.ensures)) c.in_ok-write_count.ensures
    (stop_line (g.O.Sink.seen c.write_count.new.out) (g.O.Sink.seen c.write_count-2.new.out) (count_words (codes "tasks") (task_count e.rows)) _ (count_words (codes "nulls") e.nulls ∷ held_words e.held ∷ []) p.0 (ap (count_words (codes "tasks")) (c.from-2.ensures ∙ c.count_tasks.ensures)) c.in_err-write_count-2.ensures))

pub returns-in_err-write_count-3 : goal.returns-in_err-write_count-3
returns-in_err-write_count-3 g c =
    let e = (g.E.Ended.seen c.args.end.now) in
    let p = err_from_is_err_and c.from_residual-in_err-write_count-3.result c.from_residual-in_err-write_count-3.ensures.1 in
    rw p.1 (then_line (g.O.Sink.seen c.args.out.now) (g.O.Sink.seen c.write_count.new.out) (g.O.Sink.seen c.write_count-3.new.out) (count_words (codes "activations") (length e.rows)) _ (count_words (codes "tasks") (task_count e.rows) ∷ count_words (codes "nulls") e.nulls ∷ held_words e.held ∷ []) (Err p.0) (ap (count_words (codes "activations")) (c.from.ensures ∙ c.accepted.ensures)) c.in_ok-write_count.ensures
    (then_line (g.O.Sink.seen c.write_count.new.out) (g.O.Sink.seen c.write_count-2.new.out) (g.O.Sink.seen c.write_count-3.new.out) (count_words (codes "tasks") (task_count e.rows)) _ (count_words (codes "nulls") e.nulls ∷ held_words e.held ∷ []) (Err p.0) (ap (count_words (codes "tasks")) (c.from-2.ensures ∙ c.count_tasks.ensures)) c.in_ok-write_count-2.ensures
    (stop_line (g.O.Sink.seen c.write_count-2.new.out) (g.O.Sink.seen c.write_count-3.new.out) (count_words (codes "nulls") e.nulls) _ (held_words e.held ∷ []) p.0 (ap (count_words (codes "nulls")) c.nulls.ensures) c.in_err-write_count-3.ensures)))

pub returns : goal.returns
returns g c =
    let e = (g.E.Ended.seen c.args.end.now) in
    then_line (g.O.Sink.seen c.args.out.now) (g.O.Sink.seen c.write_count.new.out) (g.O.Sink.seen c.put_line.new.out) (count_words (codes "activations") (length e.rows)) _ (count_words (codes "tasks") (task_count e.rows) ∷ count_words (codes "nulls") e.nulls ∷ held_words e.held ∷ []) c.put_line.result (ap (count_words (codes "activations")) (c.from.ensures ∙ c.accepted.ensures)) c.in_ok-write_count.ensures
    (then_line (g.O.Sink.seen c.write_count.new.out) (g.O.Sink.seen c.write_count-2.new.out) (g.O.Sink.seen c.put_line.new.out) (count_words (codes "tasks") (task_count e.rows)) _ (count_words (codes "nulls") e.nulls ∷ held_words e.held ∷ []) c.put_line.result (ap (count_words (codes "tasks")) (c.from-2.ensures ∙ c.count_tasks.ensures)) c.in_ok-write_count-2.ensures
    (then_line (g.O.Sink.seen c.write_count-2.new.out) (g.O.Sink.seen c.write_count-3.new.out) (g.O.Sink.seen c.put_line.new.out) (count_words (codes "nulls") e.nulls) _ (held_words e.held ∷ []) c.put_line.result (ap (count_words (codes "nulls")) c.nulls.ensures) c.in_ok-write_count-3.ensures
    (last_line (g.O.Sink.seen c.write_count-3.new.out) (g.O.Sink.seen c.put_line.new.out) (held_words e.held) _ c.put_line.result (ap (λ line. line ++ codes "\n") c.held_line.ensures.text) c.put_line.ensures)))
