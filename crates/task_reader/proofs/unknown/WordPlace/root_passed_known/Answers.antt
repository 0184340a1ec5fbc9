use Rattle.task_reader.proofs.Vocabulary.{map, ap, sym, ◌∙◌, length-map, err_from_is_err_and, behind, UsesRoot, root_term_use, behind_uses}
use Rattle.task_reader.proofs.KnownLemmas.{fault-first, found-behind}
use Rattle.task_reader.proofs.unknown.WordPlace.root_passed_known.Goals as goal

pub returns-in_err-root_terms_known : goal.returns-in_err-root_terms_known
returns-in_err-root_terms_known c = λ k e.
    let p = err_from_is_err_and c.from_residual.result c.from_residual.ensures.1 in
    rw (p.1, p.2) (fault-first k c.args.self.now.line c.args.self.now.word (map root_term_use c.args.arguments.now) (behind_uses UsesRoot c.args.behind.now) c.root_terms_known.result _ (c.root_terms_known.ensures.found k e) c.in_err-root_terms_known.was)

pub returns : goal.returns
returns c = λ k e.
    let place = c.root_terms_known.ensures.place ∙ ap (λ n. behind n c.args.self.now) (sym (length-map c.args.arguments.now root_term_use)) in
    found-behind k c.args.self.now c.root_terms_known.new.self (map root_term_use c.args.arguments.now) (behind_uses UsesRoot c.args.behind.now) c.root_terms_known.result c.behind_root_known.result place (c.root_terms_known.ensures.found k e) c.in_ok-root_terms_known.was (c.behind_root_known.ensures k e)
