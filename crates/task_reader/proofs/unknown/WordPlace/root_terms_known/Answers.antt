use Rattle.task_reader.proofs.KnownLemmas.{root_terms_known-is}
use Rattle.task_reader.proofs.unknown.WordPlace.root_terms_known.Goals as goal

pub returns-clause-found : goal.returns-clause-found
returns-clause-found c = λ k e. rw (c.list_known.ensures.found, c.unknown_root_term.ensures.exact, ← e) (root_terms_known-is k _ _ _)
