use Rattle.task_reader.proofs.KnownLemmas.{futures_known-is}
use Rattle.task_reader.proofs.unknown.WordPlace.futures_known.Goals as goal

pub returns-clause-found : goal.returns-clause-found
returns-clause-found c = λ k e. rw (c.list_known.ensures.found, c.unknown_future.ensures.exact, ← e) (futures_known-is k _ _ _)
