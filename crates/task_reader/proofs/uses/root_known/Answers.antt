use Rattle.task_reader.proofs.Vocabulary.{◌∷◌, ◌∙◌, sym, known_among, UsesKind, root_passed_uses}
use Rattle.task_reader.proofs.KnownLemmas.{behind-two, name-behind}
use Rattle.task_reader.proofs.uses.root_known.Goals as goal

pub returns : goal.returns
returns c =
    let k = known_among c.args.kinds.now c.args.scope.now c.args.ahead.now in
    let more = root_passed_uses c.args.arguments.now c.args.behind.now in
    name-behind k c.pass.new.self c.known.new.self (UsesKind c.args.kind.now) more c.known.result c.root_passed_known.result c.known.ensures.place (rw (← c.is_among.ensures) c.known.ensures.found) c.in_ok-known.was (c.root_passed_known.ensures k (sym c.as_slice.ensures))
    ∙ behind-two k c.args.line c.first-at.result c.pass.new.self (UsesKind c.args.kind.now ∷ more) c.first-at.ensures.line c.first-at.ensures.word c.pass.ensures
