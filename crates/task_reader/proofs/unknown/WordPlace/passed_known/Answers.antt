use Rattle.task_reader.proofs.Vocabulary.{map, ap, sym, ◌∙◌, length-map, err_from_is_err_and, behind, UsesFuture, passed_use, behind_uses}
use Rattle.task_reader.proofs.KnownLemmas.{fault-first, found-behind}
use Rattle.task_reader.proofs.unknown.WordPlace.passed_known.Goals as goal

pub returns-in_err-arguments_known : goal.returns-in_err-arguments_known
returns-in_err-arguments_known c = λ k e.
    let p = err_from_is_err_and c.from_residual.result c.from_residual.ensures.1 in
    rw (p.1, p.2) (fault-first k c.args.self.now.line c.args.self.now.word (map passed_use c.args.arguments.now) (behind_uses UsesFuture c.args.behind.now) c.arguments_known.result _ (c.arguments_known.ensures.found k e) c.in_err-arguments_known.was)

pub returns : goal.returns
returns c = λ k e.
    let place = c.arguments_known.ensures.place ∙ ap (λ n. behind n c.args.self.now) (sym (length-map c.args.arguments.now passed_use)) in
    found-behind k c.args.self.now c.arguments_known.new.self (map passed_use c.args.arguments.now) (behind_uses UsesFuture c.args.behind.now) c.arguments_known.result c.behind_known.result place (c.arguments_known.ensures.found k e) c.in_ok-arguments_known.was (c.behind_known.ensures k e)
