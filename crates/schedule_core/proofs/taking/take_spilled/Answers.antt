use Rattle.step_table.specs.Passes.{view}
use Rattle.schedule_core.proofs.TakenRuns.{spilled-since, no-spill}
use Rattle.schedule_core.proofs.taking.take_spilled.Goals as goal

pub returns-then-spilled-eq0-clause-taken : goal.returns-then-spilled-eq0-clause-taken
returns-then-spilled-eq0-clause-taken c = no-spill c.args.shared.now.setup c.see_spill-spilled.result (view c.args.pass.now) (view c.see_spill-spilled.new.pass) c.see_spill-spilled.ensures.spill c.if-spilled-eq0.true

pub returns-clause-taken : goal.returns-clause-taken
returns-clause-taken c =
    spilled-since c.args.shared.now.setup c.see_spill-spilled.result (view c.args.pass.now) (view c.see_spill-spilled.new.pass) (view c.sweep.new.pass) c.sweep.result c.see_spill-spilled.ensures.spill c.if-spilled-eq0.false c.sweep.ensures.swept
