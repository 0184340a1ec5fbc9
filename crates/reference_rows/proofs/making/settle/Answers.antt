use Rattle.std.proofs.Common.{ap}
use Rattle.step_table.specs.declared.record_tokens.Finishing.{Finishing}
use Rattle.step_table.specs.Passes.{view, plan}
use Rattle.reference_rows.proofs.MakingFacts.{may-close, may-out}
use Rattle.reference_rows.proofs.making.settle.Goals as goal

pub swap_head-requires-clause-hand : goal.swap_head-requires-clause-hand
swap_head-requires-clause-hand c =
    let done = c.finish-finishing.ensures.done in
    may-close (plan c.args.shared.now) c.args.started.unit done.run.class done.run.task done.found c.finish-finishing.result.unit _ (view c.args.pass.now) (view c.finish-finishing.new.pass)
    c.requires.running.1.near done.view_is done.unit_is

pub live_down-requires-clause-may : goal.live_down-requires-clause-may
live_down-requires-clause-may c =
    let done = c.finish-finishing.ensures.done in let taken = c.swap_head.ensures.chain in
    may-out (plan c.args.shared.now) c.args.started.unit done.run.class done.run.task done.found c.finish-finishing.result.unit _ (view c.args.pass.now) (view c.finish-finishing.new.pass)
    c.requires.running.1.near done.view_is done.unit_is c.swap_head.result.0.unit taken.word taken.members (view c.swap_head.new.pass) (ap (λ (f : Finishing). f.unit) taken.same) taken.view_is
