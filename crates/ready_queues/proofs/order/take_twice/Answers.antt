use Rattle.ready_queues.proofs.OrderFacts.{told_since, told_in_order}
use Rattle.ready_queues.proofs.order.take_twice.Goals as goal

-- `(g.met.Q.ReadyStore ..)` has the laws of the bound, in the world of this call.
pub returns-clause-order : goal.returns-clause-order
returns-clause-order g c =
    told_in_order (g.Q.ReadyStore.saw c.args.store.now) g.Q.ReadyStore.number
    ((g.met.Q.ReadyStore g.world.𝓛 g.world.𝓜 g.world.𝓡 ((λ s x. x), (λ x. x), (λ x. x), (λ x. x))).seen c.args.store.now)
    (g.Q.ReadyStore.lanes c.args.store.now) _ c.take-first.new.qpass c.take-second.new.qpass c.take-first.ensures.number
    c.take-first.result c.take-second.result c.take-first.ensures.told c.take-second.ensures.told

pub returns-clause-last : goal.returns-clause-last
returns-clause-last g c =
    told_since (g.Q.ReadyStore.saw c.args.store.now) g.Q.ReadyStore.number
    ((g.met.Q.ReadyStore g.world.𝓛 g.world.𝓜 g.world.𝓡 ((λ s x. x), (λ x. x), (λ x. x), (λ x. x))).seen c.args.store.now)
    (g.Q.ReadyStore.lanes c.args.store.now) _ c.take-first.new.qpass c.take-second.new.qpass c.take-first.ensures.number
    c.take-second.result c.take-second.ensures.told
