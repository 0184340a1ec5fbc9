use Rattle.step_table.specs.Seats.{more_by}
use Rattle.step_table.proofs.shared.Shared.fetch_add_as.Goals as goal
use Rattle.step_table.proofs.Stepping.{tells-sound}

pub fetch_add_of-requires-clause-rule : goal.fetch_add_of-requires-clause-rule
fetch_add_of-requires-clause-rule g c = let seat = c.args.seat.now in tells-sound c.args.self.now.setup seat.id seat.me.0 g.W.Wish.at (more_by c.args.k) g.W.Wish.told c.requires.rule
