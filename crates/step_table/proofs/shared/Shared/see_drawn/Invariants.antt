use Rattle.table_core.specs.Addresses.{sum}
use Rattle.schedule_rule.specs.DrawViews.{SawDrawn}
use Rattle.step_table.specs.DrawSteps.{moved}
use Rattle.step_table.proofs.shared.Shared.see_drawn.Given as goal

abbrev pub ghosts-load_as : goal.ghosts-load_as
ghosts-load_as g a = record { at = sum 0; told = SawDrawn a.self.now.setup.plan.limit g.asking.asker (moved g.asking.move a.seat.now.me.0) }
