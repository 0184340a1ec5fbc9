use Rattle.task_meaning.specs.Worths.{Respawn}
use Rattle.table_core.specs.Addresses.{sum}
use Rattle.table_core.specs.Asking.{OfTask}
use Rattle.schedule_rule.specs.DrawViews.{Drew, drew_again, drew_none}
use Rattle.step_table.proofs.shared.Shared.draw_again.Given as goal

abbrev pub ghosts-fetch_add_as : goal.ghosts-fetch_add_as
ghosts-fetch_add_as a =
    let about = a._about.now in let v = a.seat.now.me.0 in
    record { at = sum 0; told = Drew a.self.now.setup.plan.limit (λ n. drew_again about.0 about.1 (Respawn about.1 about.2) n v) (drew_none (OfTask about.1) v) }
