use Rattle.std.proofs.Common.{ℕ, sym, ap, subst, arith}
use Rattle.table_core.proofs.ReferenceBound.{units-few}
use Rattle.frame_code.specs.Entries.{future_of}
use Rattle.step_table.specs.Passes.{view, plan}
use Rattle.step_table.specs.RecordHands.{HasFuture}
use Rattle.schedule_core.proofs.EachFacts.{one-each}
use Rattle.schedule_core.proofs.SeeingTasks.{sees-one, sees-none}
use Rattle.schedule_core.proofs.sights.see_one.Goals as goal

pub overflow_cast-unit : goal.overflow_cast-unit
overflow_cast-unit c = omega (arith, (one-each (future_of c.args.passed) c.in-Future.unit c.requires.has (ap future_of c.in-Future.is)).near, units-few (plan c.args.shared.now))

pub of-future-requires : goal.of-future-requires
of-future-requires c = (one-each (future_of c.args.passed) c.in-Future.unit c.requires.has (ap future_of c.in-Future.is)).there

pub see_task-requires-clause-hand : goal.see_task-requires-clause-hand
see_task-requires-clause-hand c =
    subst (λ (u : ℕ). HasFuture (plan c.args.shared.now) u (view c.args.pass.now)) (sym c.of-future.ensures) (one-each (future_of c.args.passed) c.in-Future.unit c.requires.has (ap future_of c.in-Future.is))

pub returns-in-Future-clause-seen : goal.returns-in-Future-clause-seen
returns-in-Future-clause-seen c =
    sees-one c.args.shared.now.setup.plan.limit c.of-future.result.unit c.in-Future.unit c.see_task.result (future_of c.args.passed) (view c.args.pass.now) (view c.see_task.new.pass) (ap future_of c.in-Future.is)
    c.of-future.ensures c.see_task.ensures.task

pub returns-in-Number-clause-seen : goal.returns-in-Number-clause-seen
returns-in-Number-clause-seen c = sees-none (future_of c.args.passed) (view c.args.pass.now) (ap future_of c.in-Number.is)
