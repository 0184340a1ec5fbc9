use Rattle.step_table.proofs.turn.Turn.with.Goals as goal
use Rattle.std.proofs.Common.{rules, ◌≡◌, length, refl}
use Rattle.step_table.proofs.TurnFacts.{turn-with}

pub returns : goal.returns
returns c = let long : length c.args.self.named ≡ 16 = search rules in turn-with c.args.self c.args.named _ _ long c.requires refl refl
