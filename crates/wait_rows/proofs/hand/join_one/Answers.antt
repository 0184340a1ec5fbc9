use Rattle.wait_rows.proofs.hand.join_one.Goals as goal
use Rattle.std.proofs.Common.{◌∙◌, List, [], ◌∷◌, ◌++◌, sym, ap, subst, arith}
use Rattle.step_table.specs.declared.record_tokens.Linkable.{Linkable}
use Rattle.step_table.specs.Passes.{view}
use Rattle.wait_rows.specs.declared.stage.Waiting.{Waiting}
use Rattle.wait_rows.specs.Hands.{HasHand}
use Rattle.wait_rows.proofs.FoundFacts.{at-index}
use Rattle.wait_rows.proofs.HandFacts.{may-join, list-there, hand-joined, hand-closed, hand-lost}

pub index-owner-requires : goal.index-owner-requires
index-owner-requires c =
    let g = c.args.shared.now.setup.plan in let hand = c.args.hand.now in let v = view c.args.pass.now in
    let was = subst (λ (l : List Waiting). HasHand g l hand.back.items hand.owners.items hand.stages.items v) c.in-Some.ensures.items c.requires.hand in
    let low = list-there g hand.owners.items hand.stages.items hand.back.items c.pop.new.self.items c.in-Some.next v was in
    omega (arith, low, was.lists.count)

pub join_list-requires-clause-may : goal.join_list-requires-clause-may
join_list-requires-clause-may c =
    let g = c.args.shared.now.setup.plan in let hand = c.args.hand.now in let v = view c.args.pass.now in
    let was = subst (λ (l : List Waiting). HasHand g l hand.back.items hand.owners.items hand.stages.items v) c.in-Some.ensures.items c.requires.hand in
    let low = list-there g hand.owners.items hand.stages.items hand.back.items c.pop.new.self.items c.in-Some.next v was in
    may-join g hand.owners.items hand.stages.items hand.back.items c.pop.new.self.items c.in-Some.next c.index-owner.result.now v was
    (at-index hand.owners.items c.in-Some.next.list c.index-owner.result.now (omega (arith, low, was.lists.count)) c.index-owner.ensures)

pub returns-in-Waits-clause-hand : goal.returns-in-Waits-clause-hand
returns-in-Waits-clause-hand c =
    let g = c.args.shared.now.setup.plan in let hand = c.args.hand.now in let v = view c.args.pass.now in
    let was = subst (λ (l : List Waiting). HasHand g l hand.back.items hand.owners.items hand.stages.items v) c.in-Some.ensures.items c.requires.hand in
    hand-joined g hand.owners.items hand.stages.items hand.back.items c.pop.new.self.items c.in-Some.next c.index-owner.result.now.future.unit v (view c.join_list.new.pass) was c.in-Waits.ensures.answer

pub returns-in-Waits-clause-list : goal.returns-in-Waits-clause-list
returns-in-Waits-clause-list c =
    let g = c.args.shared.now.setup.plan in let hand = c.args.hand.now in let v = view c.args.pass.now in
    let low = list-there g hand.owners.items hand.stages.items hand.back.items c.pop.new.self.items c.in-Some.next v
    (subst (λ (l : List Waiting). HasHand g l hand.back.items hand.owners.items hand.stages.items v) c.in-Some.ensures.items c.requires.hand) in
    omega (arith, low, hand.stages.ok)

pub returns-in_ok-push-in-Closed-clause-list : goal.returns-in_ok-push-in-Closed-clause-list
returns-in_ok-push-in-Closed-clause-list c =
    let g = c.args.shared.now.setup.plan in let hand = c.args.hand.now in let v = view c.args.pass.now in
    let low = list-there g hand.owners.items hand.stages.items hand.back.items c.pop.new.self.items c.in-Some.next v
    (subst (λ (l : List Waiting). HasHand g l hand.back.items hand.owners.items hand.stages.items v) c.in-Some.ensures.items c.requires.hand) in
    omega (arith, low, hand.stages.ok)

pub returns-in_ok-push-in-Closed-clause-hand : goal.returns-in_ok-push-in-Closed-clause-hand
returns-in_ok-push-in-Closed-clause-hand c =
    let g = c.args.shared.now.setup.plan in let hand = c.args.hand.now in let v = view c.args.pass.now in let w = view c.join_list.new.pass in let rest = c.pop.new.self.items in
    let was = subst (λ (l : List Waiting). HasHand g l hand.back.items hand.owners.items hand.stages.items v) c.in-Some.ensures.items c.requires.hand in
    let answer = c.in-Closed.ensures.answer in
    let same = c.in_ok-push-in-Closed.ensures.items ∙ ap (λ (x : Linkable). hand.back.items ++ x ∷ []) answer.0 in
    subst (λ (l : List Linkable). HasHand g rest l hand.owners.items hand.stages.items w) (sym same)
    (hand-closed g hand.owners.items hand.stages.items hand.back.items rest c.in-Some.next c.index-owner.result.now.future.unit v w was answer.1)

pub returns-in_err-push-in-Closed-clause-hand : goal.returns-in_err-push-in-Closed-clause-hand
returns-in_err-push-in-Closed-clause-hand c =
    let g = c.args.shared.now.setup.plan in let hand = c.args.hand.now in let v = view c.args.pass.now in let w = view c.join_list.new.pass in let rest = c.pop.new.self.items in
    let was = subst (λ (l : List Waiting). HasHand g l hand.back.items hand.owners.items hand.stages.items v) c.in-Some.ensures.items c.requires.hand in
    subst (λ (l : List Linkable). HasHand g rest l hand.owners.items hand.stages.items w) (sym c.in_err-push-in-Closed.ensures.items)
    (hand-lost g hand.owners.items hand.stages.items hand.back.items rest c.in-Some.next.waiter w
    (hand-closed g hand.owners.items hand.stages.items hand.back.items rest c.in-Some.next c.index-owner.result.now.future.unit v w was c.in-Closed.ensures.answer.1))
