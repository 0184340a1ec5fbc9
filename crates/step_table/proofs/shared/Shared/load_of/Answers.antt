use Rattle.step_table.proofs.shared.Shared.load_of.Goals as goal
use Rattle.step_table.proofs.Stepping.{may_step}

pub load-requires : goal.load-requires
load-requires g c =
    let shared = c.args.self.now.table.shared in let seat = c.args.seat.now in
    let may = may_step c.args.self.now.setup shared.key shared.table_id.words shared.table_id.slots seat.id c.args.word seat.me g.W.Wish.at (λ n. n) g.W.Wish.told
    c.args.self.now.keyed c.args.self.now.sized c.requires.word c.requires.rule in
    (c.requires.table, may.0, may.1)
