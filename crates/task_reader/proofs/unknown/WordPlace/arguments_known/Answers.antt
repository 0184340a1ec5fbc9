use Rattle.task_reader.proofs.KnownLemmas.{arguments_known-is}
use Rattle.task_reader.proofs.unknown.WordPlace.arguments_known.Goals as goal

pub returns-clause-found : goal.returns-clause-found
returns-clause-found c = λ k e. rw (c.list_known.ensures.found, c.unknown_passed.ensures.exact, ← e) (arguments_known-is k _ _ _)
