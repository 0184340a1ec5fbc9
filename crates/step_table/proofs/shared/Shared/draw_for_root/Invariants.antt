use Rattle.table_core.specs.Addresses.{sum}
use Rattle.table_core.specs.Asking.{OfRoot}
use Rattle.schedule_rule.specs.DrawViews.{Drew, drew_for_root, drew_none}
use Rattle.step_table.proofs.shared.Shared.draw_for_root.Given as goal

abbrev pub ghosts-fetch_add_as : goal.ghosts-fetch_add_as
ghosts-fetch_add_as g a =
    let about = a._about.now in let v = a.seat.now.me.0 in
    record { at = sum 0; told = Drew a.self.now.setup.plan.limit (λ n. drew_for_root about.0 about.1 g.call n v) (drew_none (OfRoot about.1) v) }
