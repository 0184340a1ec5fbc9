use Rattle.std.proofs.Common.{◌≡◌, [], refl, sym, subst, ◌∙◌, ap}
use Rattle.plain_state.specs.Store.{woken}
use Rattle.plain_records.specs.Taken.{MayWake}
use Rattle.plain_records.proofs.Waking.{nothing_left, unit_may, goes_on, fewer_left}
use Rattle.plain_records.proofs.store.Records.wake.Goals as goal

-- src/queues.rt:80:9
pub waiters-init : goal.waiters-init
waiters-init g c = (g.waiters, c.requires, refl)

-- src/queues.rt:81:13
pub wake_one-next-requires-clause-unit : goal.wake_one-next-requires-clause-unit
wake_one-next-requires-clause-unit g c =
    let (left, may, same) = c.waiters.invariant in (unit_may c.waiters.self c.waiters.next c.in-Some.waiter left c.in-Some.is may).0

-- src/queues.rt:81:13
pub wake_one-next-requires-clause-place : goal.wake_one-next-requires-clause-place
wake_one-next-requires-clause-place g c =
    let (left, may, same) = c.waiters.invariant in (unit_may c.waiters.self c.waiters.next c.in-Some.waiter left c.in-Some.is may).1

-- src/queues.rt:80:9
pub waiters-smaller : goal.waiters-smaller
waiters-smaller g c =
    let (left, may, same) = c.waiters.invariant in
    let places = (unit_may c.waiters.self c.waiters.next c.in-Some.waiter left c.in-Some.is may).1 in
    rw c.wake_one-next.ensures.woken (fewer_left c.waiters.self c.args.cut c.in-Some.waiter places)

-- src/queues.rt:80:9
pub waiters-preserved : goal.waiters-preserved
waiters-preserved g c =
    let (left, may, same) = c.waiters.invariant in
    let next = goes_on c.waiters.self c.wake_one-next.new.self c.args.cut c.waiters.next c.wake_one-next.result c.in-Some.waiter left c.in-Some.is may c.wake_one-next.ensures.next c.wake_one-next.ensures.woken in
    (next.0, next.1, next.2 ∙ same)

-- src/queues.rt:74:5
pub returns : goal.returns
returns g c =
    let (left, may, same) = c.waiters.invariant in
    let none : left ≡ [] = nothing_left c.waiters.self left (subst (λ first. MayWake c.waiters.self first left) c.in_default.is may) in
    ap (λ units. woken c.args.cut units c.waiters.self) (sym none) ∙ same
