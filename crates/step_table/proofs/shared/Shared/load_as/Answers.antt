use Rattle.step_table.proofs.shared.Shared.load_as.Goals as goal
use Rattle.step_table.proofs.Stepping.{tells-sound}

pub load_of-requires-clause-rule : goal.load_of-requires-clause-rule
load_of-requires-clause-rule g c = let seat = c.args.seat.now in tells-sound c.args.self.now.setup seat.id seat.me.0 g.W.Wish.at (λ n. n) g.W.Wish.told c.requires.rule
