use Rattle.std.proofs.Common.{[], ◌∷◌, ◌++◌, ap, sym, ◌∙◌}
use Rattle.std.specs.Prelude.{codes}
use Rattle.std.proofs.lemmas.List.{append-nil}
use Rattle.std.proofs.lemmas.Result.{err_from_is_err_and}
use Rattle.run_report.specs.Lines.{spaced}
use Rattle.run_report.specs.Report.{root_name}
use Rattle.run_report.proofs.WrittenInParts.{writes_as, writes_then, writes_stop}
use Rattle.run_report.proofs.causes.write_from.Goals as goal

pub returns-in_err-put_word-in-Root : goal.returns-in_err-put_word-in-Root
returns-in_err-put_word-in-Root g c =
    let p = err_from_is_err_and c.from_residual.result c.from_residual.ensures.1 in
    rw (p.1, c.in-Root.is) (writes_stop (g.O.Sink.seen c.args.out.now) (g.O.Sink.seen c.put_word-in-Root.new.out) (codes " " ++ codes "root") (spaced (root_name c.args.program.now c.in-Root.at ∷ [])) p.0 c.in_err-put_word-in-Root.ensures)

pub returns-in_ok-put_word-in-Root : goal.returns-in_ok-put_word-in-Root
returns-in_ok-put_word-in-Root g c =
    rw c.in-Root.is (writes_then (g.O.Sink.seen c.args.out.now) (g.O.Sink.seen c.put_word-in-Root.new.out) (g.O.Sink.seen c.put_word-in-Root-2.new.out) (codes " " ++ codes "root") (spaced (root_name c.args.program.now c.in-Root.at ∷ [])) c.put_word-in-Root-2.result
    c.in_ok-put_word-in-Root.ensures
    (writes_as (g.O.Sink.seen c.put_word-in-Root.new.out) (g.O.Sink.seen c.put_word-in-Root-2.new.out) (codes " " ++ c.root_name.result.now) (spaced (root_name c.args.program.now c.in-Root.at ∷ [])) c.put_word-in-Root-2.result
    (ap (λ z. codes " " ++ z) c.root_name.ensures.name ∙ sym (append-nil (codes " " ++ root_name c.args.program.now c.in-Root.at))) c.put_word-in-Root-2.ensures))
