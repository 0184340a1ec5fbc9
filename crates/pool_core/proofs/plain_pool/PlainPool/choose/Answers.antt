use Rattle.std.proofs.Common.{subst}
use Rattle.pool_core.specs.Pool.{IsSound}
use Rattle.pool_core.proofs.VacancyFacts.{chosen_seen, no_room_seen}
use Rattle.pool_core.proofs.plain_pool.PlainPool.choose.Goals as goal

pub returns-clause-chosen : goal.returns-clause-chosen
returns-clause-chosen c = chosen_seen c.args.class c.choose.result c.self.view_is c.requires c.self.invariant.1 c.choose.ensures.first

pub returns-clause-none : goal.returns-clause-none
returns-clause-none c = no_room_seen c.args.class c.choose.result c.self.view_is c.self.invariant.0 c.requires c.self.invariant.1 c.choose.ensures.none

pub returns-clause-sound : goal.returns-clause-sound
returns-clause-sound c = subst IsSound c.self.view_is c.self.invariant.0
