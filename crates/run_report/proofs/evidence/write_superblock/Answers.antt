use Rattle.std.proofs.Common.{[], ◌∷◌, ◌++◌, ap}
use Rattle.std.specs.Prelude.{codes, decimal}
use Rattle.kt_words.specs.Capacity.{capacity}
use Rattle.run_report.specs.Lines.{line_text}
use Rattle.run_report.specs.Report.{superblock_words}
use Rattle.run_report.proofs.WordsPushed.{first_word, next_word}
use Rattle.run_report.proofs.WrittenInParts.{writes_as}
use Rattle.run_report.proofs.evidence.write_superblock.Goals as goal

pub returns : goal.returns
returns g c =
    let l0 = first_word c.line_from-line.result (codes "superblock") c.line_from-line.ensures in
    let l1 = next_word c.line_from-line.result c.push_number.new.line (codes "superblock") [] (decimal c.args.superblock) l0 (rw c.from.ensures at c.push_number.ensures.text) in
    let l2 = next_word c.push_number.new.line c.push_word.new.line (codes "superblock") ((decimal c.args.superblock) ∷ []) (codes "class") l1 c.push_word.ensures in
    let l3 = next_word c.push_word.new.line c.push_number-2.new.line (codes "superblock") ((decimal c.args.superblock) ∷ (codes "class") ∷ []) (decimal c.args.word.now.class) l2 (rw c.from-2.ensures at c.push_number-2.ensures.text) in
    let l4 = next_word c.push_number-2.new.line c.push_number-3.new.line (codes "superblock") ((decimal c.args.superblock) ∷ (codes "class") ∷ (decimal c.args.word.now.class) ∷ []) (decimal c.args.word.now.count) l3 (rw c.from-3.ensures at c.push_number-3.ensures.text) in
    let l5 = next_word c.push_number-3.new.line c.push_word-2.new.line (codes "superblock") ((decimal c.args.superblock) ∷ (codes "class") ∷ (decimal c.args.word.now.class) ∷ (decimal c.args.word.now.count) ∷ []) (codes "of") l4 c.push_word-2.ensures in
    let l6 = next_word c.push_word-2.new.line c.push_number-4.new.line (codes "superblock") ((decimal c.args.superblock) ∷ (codes "class") ∷ (decimal c.args.word.now.class) ∷ (decimal c.args.word.now.count) ∷ (codes "of") ∷ []) (decimal (capacity c.args.geometry.now.units c.args.word.now.class)) l5 (rw (c.from-4.ensures, c.cap.ensures.quotient) at c.push_number-4.ensures.text) in
    writes_as (g.O.Sink.seen c.args.out.now) (g.O.Sink.seen c.put_line.new.out) _ (line_text (superblock_words c.args.geometry.now.units c.args.superblock c.args.word.now)) c.put_line.result (ap (λ z. z ++ codes "\n") l6) c.put_line.ensures
