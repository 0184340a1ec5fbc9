use Rattle.schedule_rule.proofs.laws.life_keeps_rule.Goals as goal
use Rattle.std.specs.Prelude.{ℕ, List}
use Rattle.table_core.specs.declared.setup.Setup.{Setup}
use Rattle.table_core.proofs.ListKinds.{IsTaken}
use Rattle.table_core.proofs.WaitKinds.{IsRest}
use Rattle.schedule_rule.specs.LifeLaws.{IsWhole, IsRestOf}
use Rattle.schedule_rule.proofs.ListKinds.{closes-at, unchains-at}
use Rattle.schedule_rule.proofs.ListKindsJoin.{sees-head-at, links-at, joins-at}
use Rattle.schedule_rule.proofs.LiveKinds.{counts-in-at, counts-out-at, spills-at}
use Rattle.schedule_rule.proofs.FinishKinds.{finishes-at}
use Rattle.schedule_rule.proofs.MoveKinds.{moved-says}

whole : (g : Setup) (found : ℕ) (members : List ℕ) → IsTaken g.plan found members → IsWhole g found members
whole g found members is = record { is_head = is.is_head; unclosed = is.unclosed; link_is = is.link_is; length_is = is.length_is; near = is.near }

rest-of : (chains : List (List ℕ)) (u found : ℕ) (rest : List ℕ) → IsRest chains u found rest → IsRestOf chains u found rest
rest-of chains u found rest is = record { there = is.there; link_is = is.link_is; only = is.only }

pub returns-clause-lists : goal.returns-clause-lists
returns-clause-lists c g id v = (
  sees-head-at g id v,
  links-at g id v,
  joins-at g id v,
  (λ d has unclosed in_use m vs s l at small. let t = closes-at g id v d has unclosed in_use m vs s l at small in (t.0, t.1, (t.2.0, t.2.1, whole g _ _ t.2.2), t.3)),
  (λ u members has in_use m vs s l at small. let t = unchains-at g id v u members has in_use m vs s l at small in (t.0, t.1, (t.2.0, t.2.1, rest-of v.chains u _ _ t.2.2), t.3)),
)

pub returns-clause-living : goal.returns-clause-living
returns-clause-living c g id v = (counts-in-at g id v, counts-out-at g id v, spills-at g id v)

pub returns-clause-runs : goal.returns-clause-runs
returns-clause-runs c g id v = (
  finishes-at g id v,
  (λ r has unplaced words is still in_use m vs s l at. moved-says g id v m vs s l at r has words is still in_use),
)
