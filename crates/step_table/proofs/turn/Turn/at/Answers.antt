use Rattle.step_table.proofs.turn.Turn.at.Goals as goal
use Rattle.std.proofs.Common.{rules, ◌≡◌, length, sym, arith}
use Rattle.step_table.proofs.TurnFacts.{index-get, taken-at, taken-behind}

pub returns-then-root-self : goal.returns-then-root-self
returns-then-root-self c =
    let t = c.args.self in let long : length t.named ≡ 16 = search rules in
    sym (taken-at t.named t.asked c.args.root _ c.if-root-self.true (index-get t.named c.args.root _ (omega (arith, long, c.requires))))

pub returns-else-root-self : goal.returns-else-root-self
returns-else-root-self c = let t = c.args.self in sym (taken-behind t.named t.asked c.args.root c.if-root-self.false)
