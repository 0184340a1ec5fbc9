use Rattle.std.proofs.Common.{[], ◌∷◌, ◌++◌, ap}
use Rattle.std.specs.Prelude.{codes, decimal}
use Rattle.run_report.specs.Lines.{line_text}
use Rattle.run_report.specs.Report.{evidence_words}
use Rattle.run_report.proofs.WordsPushed.{first_word, next_word}
use Rattle.run_report.proofs.WrittenInParts.{writes_as}
use Rattle.run_report.proofs.evidence.write_class.Goals as goal

pub returns : goal.returns
returns g c =
    let l0 = first_word c.line_from-line.result (codes "evidence") c.line_from-line.ensures in
    let l1 = next_word c.line_from-line.result c.push_word.new.line (codes "evidence") [] (codes "class") l0 c.push_word.ensures in
    let l2 = next_word c.push_word.new.line c.push_number.new.line (codes "evidence") ((codes "class") ∷ []) (decimal c.args.class) l1 (rw c.from.ensures at c.push_number.ensures.text) in
    writes_as (g.O.Sink.seen c.args.out.now) (g.O.Sink.seen c.put_line.new.out) _ (line_text (evidence_words c.args.class)) c.put_line.result (ap (λ z. z ++ codes "\n") l2) c.put_line.ensures
