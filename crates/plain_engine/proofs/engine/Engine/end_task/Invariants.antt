use Rattle.plain_engine.specs.Ending.{waiters_at}
use Rattle.plain_engine.proofs.engine.Engine.end_task.Given as goal

-- the waiters of the task that ends
abbrev pub ghost-complete : goal.ghost-complete
ghost-complete a = waiters_at a.self.now a.unit
