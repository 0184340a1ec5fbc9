use Rattle.std.proofs.Common.{◌==◌}
use prog.Atomic.{either}
use Rattle.step_table.proofs.shared.Shared.compare_exchange_as.Goals as goal
use Rattle.step_table.proofs.Stepping.{tells-sound}

pub compare_exchange_of-requires-clause-rule : goal.compare_exchange_of-requires-clause-rule
compare_exchange_of-requires-clause-rule g c = let seat = c.args.seat.now in tells-sound c.args.self.now.setup seat.id seat.me.0 g.W.Wish.at (λ n. either (n == c.args.old) c.args.new n) g.W.Wish.told c.requires.rule
