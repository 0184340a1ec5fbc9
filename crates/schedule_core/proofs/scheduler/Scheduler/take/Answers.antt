use Rattle.std.proofs.Common.{inl}
use Rattle.step_table.specs.Passes.{view}
use Rattle.schedule_core.proofs.TakenRuns.{takes-spilled}
use Rattle.schedule_core.proofs.scheduler.Scheduler.take.Goals as goal

pub returns-in-Ok-clause-taken : goal.returns-in-Ok-clause-taken
returns-in-Ok-clause-taken g c = inl (c.in-Some.entry, c.in-Some.ensures.told, c.in-Ok.ensures.taken)

pub returns-in-Err-clause-taken : goal.returns-in-Err-clause-taken
returns-in-Err-clause-taken g c = inl (c.in-Some.ensures.told, c.in-Err.ensures.taken)

pub returns-in-None-clause-taken : goal.returns-in-None-clause-taken
returns-in-None-clause-taken g c = takes-spilled c.args.self.now.shared.setup _ _ _ (view c.args.pass.now) (view c.take_spilled.new.pass) c.take_spilled.result c.in-None.ensures.told c.take_spilled.ensures.taken
