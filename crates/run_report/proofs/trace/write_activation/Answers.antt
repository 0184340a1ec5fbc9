use Rattle.std.proofs.Common.{[], ◌∷◌, ◌++◌, ap}
use Rattle.std.specs.Prelude.{codes, decimal}
use Rattle.run_report.specs.Lines.{line_text}
use Rattle.run_report.specs.Report.{activation_words, number_or_dash}
use Rattle.run_report.proofs.WordsPushed.{first_word, next_word}
use Rattle.run_report.proofs.WrittenInParts.{writes_as}
use Rattle.run_report.proofs.trace.write_activation.Goals as goal

pub returns : goal.returns
returns g c =
    let l0 = first_word c.line_from-line.result (codes "activation") c.line_from-line.ensures in
    let l1 = next_word c.line_from-line.result c.push_number.new.line (codes "activation") [] (decimal c.args.number) l0 (rw c.from.ensures at c.push_number.ensures.text) in
    let l2 = next_word c.push_number.new.line c.push_word.new.line (codes "activation") ((decimal c.args.number) ∷ []) (codes "task") l1 c.push_word.ensures in
    let l3 = next_word c.push_word.new.line c.push_number-2.new.line (codes "activation") ((decimal c.args.number) ∷ (codes "task") ∷ []) (decimal c.args.row.now.task) l2 (rw c.from-2.ensures at c.push_number-2.ensures.text) in
    let l4 = next_word c.push_number-2.new.line c.push_word-2.new.line (codes "activation") ((decimal c.args.number) ∷ (codes "task") ∷ (decimal c.args.row.now.task) ∷ []) (codes "after") l3 c.push_word-2.ensures in
    let l5 = next_word c.push_word-2.new.line c.push_maybe.new.line (codes "activation") ((decimal c.args.number) ∷ (codes "task") ∷ (decimal c.args.row.now.task) ∷ (codes "after") ∷ []) (number_or_dash c.args.row.now.after) l4 (rw c.wide.ensures at c.push_maybe.ensures.text) in
    let l6 = next_word c.push_maybe.new.line c.push_word-3.new.line (codes "activation") ((decimal c.args.number) ∷ (codes "task") ∷ (decimal c.args.row.now.task) ∷ (codes "after") ∷ (number_or_dash c.args.row.now.after) ∷ []) (codes "start") l5 c.push_word-3.ensures in
    let l7 = next_word c.push_word-3.new.line c.push_maybe-2.new.line (codes "activation") ((decimal c.args.number) ∷ (codes "task") ∷ (decimal c.args.row.now.task) ∷ (codes "after") ∷ (number_or_dash c.args.row.now.after) ∷ (codes "start") ∷ []) (number_or_dash c.args.row.now.start) l6 c.push_maybe-2.ensures.text in
    writes_as (g.O.Sink.seen c.args.out.now) (g.O.Sink.seen c.put_line.new.out) _ (line_text (activation_words c.args.number c.args.row.now)) c.put_line.result (ap (λ z. z ++ codes "\n") l7) c.put_line.ensures
