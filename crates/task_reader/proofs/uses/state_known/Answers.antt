use Rattle.task_reader.proofs.Vocabulary.{◌++◌, ◌∙◌, futures_uses}
use Rattle.task_reader.proofs.KnownLemmas.{behind-two}
use Rattle.task_reader.proofs.uses.state_known.Goals as goal

pub returns : goal.returns
returns c = λ k e.
    c.listed_known.ensures k e
    ∙ behind-two k c.args.line c.first-at.result c.pass.new.self (futures_uses c.args.holds.now ++ futures_uses c.args.settled.now) c.first-at.ensures.line c.first-at.ensures.word c.pass.ensures
