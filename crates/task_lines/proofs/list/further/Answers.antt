use Rattle.task_lines.proofs.Vocabulary.{◌≡◌, true, false, ◌∙◌, err_from_is_err_and, seen, each-more, each-fails, each-ends, moved-shorter}
use Rattle.task_lines.proofs.list.further.Goals as goal

pub returns-in_err-read : goal.returns-in_err-read
returns-in_err-read g c =
    let test = g.L.Listed.test c.args.list in
    let item = g.L.Listed.item c.args.list in
    let some : test (seen c.words.words) ≡ true = cc in
    let e = rw c.as_slice.ensures at c.in_err-read.ensures.read in
    let p = err_from_is_err_and c.from_residual.result c.from_residual.ensures.1 in
    rw (p.1, p.2) (c.words.invariant ∙ each-fails test item c.words.found c.words.words _ (g.met.L.Listed.ends c.args.list) some e)

pub words-smaller : goal.words-smaller
words-smaller g c =
    let test = g.L.Listed.test c.args.list in
    let some : test (seen c.words.words) ≡ true = cc in
    rw c.in_ok-read.ensures.next (moved-shorter test c.words.words (g.met.L.Listed.ends c.args.list) some)

pub words-preserved : goal.words-preserved
words-preserved g c =
    let test = g.L.Listed.test c.args.list in
    let item = g.L.Listed.item c.args.list in
    let some : test (seen c.words.words) ≡ true = cc in
    let e = rw c.as_slice.ensures at c.in_ok-read.ensures.read in
    rw c.in_ok-push.ensures.ok
    (c.words.invariant ∙ each-more test item c.words.found c.words.words c.read.new.words _ (g.met.L.Listed.ends c.args.list) some e c.in_ok-read.ensures.next)

pub returns : goal.returns
returns g c =
    let test = g.L.Listed.test c.args.list in
    let ended : test (seen c.words.words) ≡ false = cc in
    c.words.invariant ∙ each-ends test (g.L.Listed.item c.args.list) c.words.found c.words.words ended
