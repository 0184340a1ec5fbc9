use Rattle.step_table.specs.Seats.{always}
use Rattle.step_table.proofs.shared.Shared.store_as.Goals as goal
use Rattle.step_table.proofs.Stepping.{tells-sound}

pub store_of-requires-clause-rule : goal.store_of-requires-clause-rule
store_of-requires-clause-rule g c = let seat = c.args.seat.now in tells-sound c.args.self.now.setup seat.id seat.me.0 g.W.Wish.at (always c.args.new) (λ n. g.W.Wish.told c.args.new) c.requires.rule
