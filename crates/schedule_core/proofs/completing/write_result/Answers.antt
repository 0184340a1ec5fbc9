use Rattle.std.proofs.Common.{ap}
use Rattle.step_table.specs.Passes.{view}
use Rattle.schedule_core.specs.Completing.{with_result}
use Rattle.schedule_core.proofs.Completions.{writes-number, writes-none}
use Rattle.schedule_core.proofs.completing.write_result.Goals as goal

pub returns-in-Number-clause-written : goal.returns-in-Number-clause-written
returns-in-Number-clause-written c = writes-number c.args.unit c.in-Number.number c.args.outcome c.args.pass.now c.fill.new.pass c.in-Number.is c.fill.ensures.view

pub returns-in-Trapped-clause-written : goal.returns-in-Trapped-clause-written
returns-in-Trapped-clause-written c = writes-none c.args.unit c.args.outcome (view c.args.pass.now) (ap (λ o. with_result c.args.unit o (view c.args.pass.now).known) c.in-Trapped.is)

pub returns-in-RefusedNull-clause-written : goal.returns-in-RefusedNull-clause-written
returns-in-RefusedNull-clause-written c = writes-none c.args.unit c.args.outcome (view c.args.pass.now) (ap (λ o. with_result c.args.unit o (view c.args.pass.now).known) c.in-RefusedNull.is)

pub returns-in-RefusedLimit-clause-written : goal.returns-in-RefusedLimit-clause-written
returns-in-RefusedLimit-clause-written c = writes-none c.args.unit c.args.outcome (view c.args.pass.now) (ap (λ o. with_result c.args.unit o (view c.args.pass.now).known) c.in-RefusedLimit.is)
