use Rattle.wait_rows.proofs.hand.take_one.Goals as goal
use Rattle.std.proofs.Common.{List, sym, subst}
use Rattle.step_table.specs.declared.record_tokens.Linkable.{Linkable}
use Rattle.step_table.specs.Passes.{view}
use Rattle.wait_rows.specs.Hands.{HasHand}
use Rattle.wait_rows.proofs.HandFacts.{hand-unchained, hand-lost}

pub returns-in_err-push-in-Some-clause-hand : goal.returns-in_err-push-in-Some-clause-hand
returns-in_err-push-in-Some-clause-hand c =
    let s = c.args.shared.now.setup in let hand = c.args.hand.now in let chain = c.requires.chain in let w = view c.next_of.new.pass in
    subst (λ (l : List Linkable). HasHand s.plan hand.waiting.items l hand.owners.items hand.stages.items w) (sym c.in_err-push-in-Some.ensures.items)
    (hand-lost s.plan hand.owners.items hand.stages.items hand.back.items hand.waiting.items c.in-Some.waiter w
    (hand-unchained s hand.owners.items hand.stages.items hand.back.items hand.waiting.items chain.0 c.args.pass.now c.next_of.new.pass (c.in-Some.waiter, c.in-Some.rest) c.requires.hand
    (c.in-Some.ensures.some chain.0 chain.1) c.in-Some.ensures.sound.after))

pub returns-in_ok-push-in-Some-clause-hand : goal.returns-in_ok-push-in-Some-clause-hand
returns-in_ok-push-in-Some-clause-hand c =
    let s = c.args.shared.now.setup in let hand = c.args.hand.now in let chain = c.requires.chain in let w = view c.next_of.new.pass in
    subst (λ (l : List Linkable). HasHand s.plan hand.waiting.items l hand.owners.items hand.stages.items w) (sym c.in_ok-push-in-Some.ensures.items)
    (hand-unchained s hand.owners.items hand.stages.items hand.back.items hand.waiting.items chain.0 c.args.pass.now c.next_of.new.pass (c.in-Some.waiter, c.in-Some.rest) c.requires.hand
    (c.in-Some.ensures.some chain.0 chain.1) c.in-Some.ensures.sound.after)
