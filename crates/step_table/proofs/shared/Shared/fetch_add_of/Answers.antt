use Rattle.step_table.specs.Seats.{more_by}
use Rattle.step_table.proofs.shared.Shared.fetch_add_of.Goals as goal
use Rattle.step_table.proofs.Stepping.{may_step}

pub fetch_add-requires : goal.fetch_add-requires
fetch_add-requires g c =
    let shared = c.args.self.now.table.shared in let seat = c.args.seat.now in
    let may = may_step c.args.self.now.setup shared.key shared.table_id.words shared.table_id.slots seat.id c.args.word seat.me g.W.Wish.at (more_by c.args.k) g.W.Wish.told
    c.args.self.now.keyed c.args.self.now.sized c.requires.word c.requires.rule in
    (c.requires.table, may.0, may.1)
