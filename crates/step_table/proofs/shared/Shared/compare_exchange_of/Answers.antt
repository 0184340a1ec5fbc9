use Rattle.std.proofs.Common.{◌==◌}
use prog.Atomic.{either}
use Rattle.step_table.proofs.shared.Shared.compare_exchange_of.Goals as goal
use Rattle.step_table.proofs.Stepping.{may_step}

pub compare_exchange-requires : goal.compare_exchange-requires
compare_exchange-requires g c =
    let shared = c.args.self.now.table.shared in let seat = c.args.seat.now in
    let may = may_step c.args.self.now.setup shared.key shared.table_id.words shared.table_id.slots seat.id c.args.word seat.me g.W.Wish.at (λ n. either (n == c.args.old) c.args.new n) g.W.Wish.told
    c.args.self.now.keyed c.args.self.now.sized c.requires.word c.requires.rule in
    (c.requires.table, may.0, may.1)
