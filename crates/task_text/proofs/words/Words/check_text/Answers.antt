use Rattle.std.proofs.Common.{◌≡◌, ◌<◌, false, true, length, sym, ◌∙◌, ap, subst}
use Rattle.task_text.specs.Scan.{Scan, is_text, seen}
use Rattle.task_text.specs.Cursor.{is_over}
use Rattle.task_text.proofs.Checking.{checked, checked-end, checked-bad, checked-more, moved-fewer}
use Rattle.task_text.proofs.words.Words.check_text.Goals as goal

pub returns-then-not-is_text : goal.returns-then-not-is_text
returns-then-not-is_text c =
    let s = c.words.ahead in
    let more : is_over s.left ≡ false = cc in
    let bad : is_text (seen s) ≡ false = cc in
    let e = checked-bad s more bad in cc

pub words-smaller : goal.words-smaller
words-smaller c =
    let s = c.words.ahead in
    let more : is_over s.left ≡ false = cc in
    subst (λ (n : Scan). length n.left < length s.left) (sym c.take_word.ensures.next) (moved-fewer s more)

pub words-preserved : goal.words-preserved
words-preserved c =
    let s = c.words.ahead in
    let more : is_over s.left ≡ false = cc in
    let good : is_text (seen s) ≡ true = cc in
    ap checked c.take_word.ensures.next ∙ (checked-more s more good ∙ c.words.invariant)

pub returns : goal.returns
returns c =
    let s = c.words.ahead in
    let over : is_over s.left ≡ true = cc in
    sym (checked-end s over) ∙ (c.words.invariant ∙ ap checked c.copy-ahead.ensures)
