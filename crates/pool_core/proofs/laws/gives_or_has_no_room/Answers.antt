use Rattle.pool_core.proofs.EitherAnswer.{gives_or_has_no_room, never_gives_without_room}
use Rattle.pool_core.proofs.laws.gives_or_has_no_room.Goals as goal

pub returns-clause-either : goal.returns-clause-either
returns-clause-either c = gives_or_has_no_room

pub returns-clause-not_both : goal.returns-clause-not_both
returns-clause-not_both c = never_gives_without_room

pub returns-clause-full : goal.returns-clause-full
returns-clause-full c = λ pool class. (λ full. full, λ full. full)
