use Rattle.table_core.specs.Addresses.{sum}
use Rattle.table_core.specs.Asking.{OfTask}
use Rattle.schedule_rule.specs.DrawViews.{Drew, drew_for_run, drew_none}
use Rattle.step_table.proofs.shared.Shared.draw_for_run.Given as goal

abbrev pub ghosts-fetch_add_as : goal.ghosts-fetch_add_as
ghosts-fetch_add_as g a =
    let about = a._about.now in let v = a.seat.now.me.0 in
    record { at = sum 0; told = Drew a.self.now.setup.plan.limit (λ n. drew_for_run about.0 about.1 about.2 g.call n v) (drew_none (OfTask about.2) v) }
