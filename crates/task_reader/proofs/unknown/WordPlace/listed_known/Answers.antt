use Rattle.task_reader.proofs.Vocabulary.{err_from_is_err_and, futures_uses}
use Rattle.task_reader.proofs.KnownLemmas.{fault-first, found-behind}
use Rattle.task_reader.proofs.unknown.WordPlace.listed_known.Goals as goal

pub returns-in_err-list_behind_word : goal.returns-in_err-list_behind_word
returns-in_err-list_behind_word c = λ k e.
    let p = err_from_is_err_and c.from_residual.result c.from_residual.ensures.1 in
    rw (p.1, p.2) (fault-first k c.args.self.now.line c.args.self.now.word (futures_uses c.args.holds.now) (futures_uses c.args.settled.now) c.list_behind_word.result _ (c.list_behind_word.ensures.found k e) c.in_err-list_behind_word.was)

pub returns : goal.returns
returns c = λ k e.
    found-behind k c.args.self.now c.list_behind_word.new.self (futures_uses c.args.holds.now) (futures_uses c.args.settled.now) c.list_behind_word.result c.list_behind_word-2.result c.list_behind_word.ensures.place (c.list_behind_word.ensures.found k e) c.in_ok-list_behind_word.was (c.list_behind_word-2.ensures.found k e)
