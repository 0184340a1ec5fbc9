use Rattle.std.specs.Int.Bits.{bit_and}
use Rattle.step_table.proofs.shared.Shared.fetch_and_as.Goals as goal
use Rattle.step_table.proofs.Stepping.{tells-sound}

pub fetch_and_of-requires-clause-rule : goal.fetch_and_of-requires-clause-rule
fetch_and_of-requires-clause-rule g c = let seat = c.args.seat.now in tells-sound c.args.self.now.setup seat.id seat.me.0 g.W.Wish.at (λ n. bit_and n c.args.mask) g.W.Wish.told c.requires.rule
