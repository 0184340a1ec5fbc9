use Rattle.std.proofs.Common.{ap}
use Rattle.step_table.specs.Passes.{view}
use Rattle.schedule_core.specs.SeenTasks.{unit_behind}
use Rattle.schedule_core.proofs.EachFacts.{dropped-none}
use Rattle.schedule_core.proofs.named_roots.drop_behind.Goals as goal

pub returns-in-None-clause-dropped : goal.returns-in-None-clause-dropped
returns-in-None-clause-dropped c = dropped-none (unit_behind c.args.behind) (view c.args.pass.now) (ap unit_behind c.in-None.is)
