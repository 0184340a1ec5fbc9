use Rattle.task_reader.proofs.Vocabulary.{[], ◌∷◌, ◌∙◌, sym, known_among, Plain, UsesFuture, UsesState, UsesLabel, term_use, behind_uses}
use Rattle.task_reader.proofs.KnownLemmas.{behind-one, name-behind, name-last, plain-behind, term_known-is}
use Rattle.task_reader.proofs.uses.going_step_known.Goals as goal

pub returns-in_ok-term_known-in-If-2 : goal.returns-in_ok-term_known-in-If-2
returns-in_ok-term_known-in-If-2 c kinds =
    let k = known_among kinds c.args.scope.now c.args.ahead.now in
    let target = UsesLabel c.in-If.target ∷ [] in
    let right = term_use c.in-If.right ∷ Plain ∷ target in
    let left = term_use c.in-If.left ∷ Plain ∷ right in
    rw c.in-If.is (
    name-behind k c.pass.new.self c.term_known.new.self (term_use c.in-If.left) (Plain ∷ right) c.term_known.result c.known.result c.term_known.ensures.place
    (rw (term_known-is, ← c.as_slice-variables.ensures) c.term_known.ensures.found) c.in_ok-term_known-in-If.was
    (plain-behind k c.term_known.new.self c.pass-in-If.new.self right c.known.result c.pass-in-If.ensures
    (name-behind k c.pass-in-If.new.self c.term_known-in-If.new.self (term_use c.in-If.right) (Plain ∷ target) c.term_known-in-If.result c.known.result c.term_known-in-If.ensures.place
    (rw (term_known-is, ← c.as_slice-variables.ensures) c.term_known-in-If.ensures.found) c.in_ok-term_known-in-If-2.was
    (plain-behind k c.term_known-in-If.new.self c.pass-in-If-2.new.self target c.known.result c.pass-in-If-2.ensures
    (name-last k c.pass-in-If-2.new.self (UsesLabel c.in-If.target) c.known.result (rw (← c.is_label.ensures) c.known.ensures.found)))))
    ∙ behind-one k c.args.line c.first-at.result c.pass.new.self left c.first-at.ensures.line c.first-at.ensures.word c.pass.ensures
    )

pub returns-in_ok-known-in-Again : goal.returns-in_ok-known-in-Again
returns-in_ok-known-in-Again c kinds =
    let k = known_among kinds c.args.scope.now c.args.ahead.now in
    let more = behind_uses UsesFuture c.in-Again.behind in
    rw c.in-Again.is (
    name-behind k c.pass.new.self c.known-in-Again.new.self (UsesState c.in-Again.target) more c.known-in-Again.result c.behind_known.result c.known-in-Again.ensures.place
    (rw (← c.is_state.ensures) c.known-in-Again.ensures.found) c.in_ok-known-in-Again.was
    (c.behind_known.ensures k (sym c.as_slice-variables.ensures))
    ∙ behind-one k c.args.line c.first-at.result c.pass.new.self (UsesState c.in-Again.target ∷ more) c.first-at.ensures.line c.first-at.ensures.word c.pass.ensures
    )
