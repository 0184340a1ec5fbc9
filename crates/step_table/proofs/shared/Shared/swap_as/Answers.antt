use Rattle.step_table.specs.Seats.{always}
use Rattle.step_table.proofs.shared.Shared.swap_as.Goals as goal
use Rattle.step_table.proofs.Stepping.{tells-sound}

pub swap_of-requires-clause-rule : goal.swap_of-requires-clause-rule
swap_of-requires-clause-rule g c = let seat = c.args.seat.now in tells-sound c.args.self.now.setup seat.id seat.me.0 g.W.Wish.at (always c.args.new) g.W.Wish.told c.requires.rule
