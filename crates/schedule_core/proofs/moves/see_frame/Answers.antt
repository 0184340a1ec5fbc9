use Rattle.step_table.specs.Passes.{plan}
use Rattle.schedule_core.proofs.MovedTasks.{sees-frame}
use Rattle.schedule_core.proofs.moves.see_frame.Goals as goal

pub returns-clause-seen : goal.returns-clause-seen
returns-clause-seen g c = sees-frame (plan c.args.shared.now).limit g.asking c.args.pass.now c.see_drawn-open.result c.see_drawn-open.new.pass c.requires.1.0 c.see_drawn-open.ensures.drawn
