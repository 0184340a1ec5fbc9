use Rattle.task_reader.proofs.Vocabulary.{◌∷◌, ◌∙◌, sym, known_among, UsesFuture, UsesKind, passed_uses}
use Rattle.task_reader.proofs.KnownLemmas.{behind-one, name-behind}
use Rattle.task_reader.proofs.uses.future_step_known.Goals as goal

pub returns-in_ok-known-in-Spawn : goal.returns-in_ok-known-in-Spawn
returns-in_ok-known-in-Spawn c ahead =
    let k = known_among c.args.kinds.now c.args.scope.now ahead in
    let more = passed_uses c.in-Spawn.arguments c.in-Spawn.behind in
    rw c.in-Spawn.is (
    name-behind k c.pass.new.self c.future_known.new.self (UsesFuture c.in-Spawn.to) (UsesKind c.in-Spawn.kind ∷ more) c.future_known.result c.passed_known.result c.future_known.ensures.place
    (rw (← c.as_slice-variables.ensures) c.future_known.ensures.found) c.in_ok-future_known-in-Spawn.was
    (name-behind k c.future_known.new.self c.known.new.self (UsesKind c.in-Spawn.kind) more c.known.result c.passed_known.result c.known.ensures.place
    (rw (← c.is_among.ensures) c.known.ensures.found) c.in_ok-known-in-Spawn.was
    (rw (← c.as_slice.ensures) (c.passed_known.ensures k (sym c.as_slice-variables.ensures))))
    ∙ behind-one k c.args.line c.first-at.result c.pass.new.self (UsesFuture c.in-Spawn.to ∷ UsesKind c.in-Spawn.kind ∷ more) c.first-at.ensures.line c.first-at.ensures.word c.pass.ensures
    )
